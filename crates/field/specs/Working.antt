-- What inner contracts cite, and no promise.
pub mod Tables
pub mod Doublings
pub mod Bits
