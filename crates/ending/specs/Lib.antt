pub mod Locators
pub mod Endings
pub mod Working
