pub mod Refusal
pub mod Keeping
pub mod Meaning
pub mod Numbers
