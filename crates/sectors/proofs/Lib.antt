pub mod Promised
pub mod Lost
pub mod LostDemands
pub mod Demands
pub mod Shifted
