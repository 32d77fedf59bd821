pub mod Laws
pub mod Repeats
pub mod Keeping
pub mod Ladders
pub mod Numbers
