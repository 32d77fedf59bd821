-- What inner contracts cite, and no promise.
pub mod Slots
pub mod Held
pub mod Scan
pub mod Turns
pub mod Solver
pub mod Start
