pub mod Places
pub mod Shares
pub mod Single
pub mod Filled
pub mod Unique
pub mod Demands
