pub mod Decimals
pub mod Fields
pub mod Heads
pub mod Wholes
pub mod Replies
pub mod Unique
pub mod Enough
pub mod Printed
