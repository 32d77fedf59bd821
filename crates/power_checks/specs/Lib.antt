pub mod Powers
pub mod Checks
pub mod Working
