pub mod Sets
pub mod Listed
pub mod Tried
pub mod Placed
pub mod Chosen
