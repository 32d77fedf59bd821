pub mod Counts
pub mod Records
pub mod Lines
pub mod Promises
pub mod Working
