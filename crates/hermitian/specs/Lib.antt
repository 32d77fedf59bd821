pub mod Ring
pub mod Checks
pub mod Pits
