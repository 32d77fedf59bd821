pub mod Passed
pub mod Listed
pub mod Unique
pub mod Demands
