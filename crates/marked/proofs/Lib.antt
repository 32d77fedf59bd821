pub mod AllHold
pub mod Printed
pub mod ShutOut
