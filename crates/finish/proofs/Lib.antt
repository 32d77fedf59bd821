pub mod Marks
pub mod Filled
pub mod Divided
