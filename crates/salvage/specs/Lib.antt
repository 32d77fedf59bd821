pub mod Pieces
pub mod Listing
pub mod Promises
pub mod Working
