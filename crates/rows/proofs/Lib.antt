pub mod Symbols
pub mod Rounds
pub mod Sharing
pub mod Evaluation
pub mod Newton
pub mod Reduced
pub mod Pieces
mod Written
