pub mod Patch
pub mod Parts
