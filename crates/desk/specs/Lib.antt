pub mod Desk
pub mod Verdict
pub mod Working
