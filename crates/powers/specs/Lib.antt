pub mod Promises
pub mod Working
