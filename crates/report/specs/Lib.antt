pub mod Report
pub mod Ranking
pub mod Working
