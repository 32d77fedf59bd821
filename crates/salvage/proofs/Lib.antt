pub mod Lines
pub mod Rewritten
pub mod Told
pub mod Unique
pub mod Again
pub mod Demands
pub mod Every
pub mod Writing
