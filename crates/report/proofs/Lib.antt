pub mod Figures
pub mod History
pub mod Order
pub mod Promised
pub mod Demands
pub mod Decoded
