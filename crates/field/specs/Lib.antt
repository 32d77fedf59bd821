pub mod Symbols
pub mod Arithmetic
pub mod Values
pub mod Working
