pub mod Promises
pub mod Lost
pub mod Working
