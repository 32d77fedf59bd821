pub mod Promises
pub mod Working
pub mod Lost
pub mod Shifted
