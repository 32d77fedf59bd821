pub mod Ordinates
pub mod Lent
