pub mod Code
pub mod Lost
pub mod Checks
pub mod Near
pub mod Factors
pub mod Added
