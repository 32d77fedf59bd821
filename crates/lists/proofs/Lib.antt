pub mod Combined
pub mod Turns
