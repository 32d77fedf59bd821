-- What inner contracts cite, and no promise.
pub mod Table
pub mod Holds
pub mod Rings
