-- What inner contracts cite, and no promise.
pub mod Rows
