pub mod Flagged
pub mod Ended
pub mod Demands
