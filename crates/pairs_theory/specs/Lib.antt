pub mod Pairs
pub mod ShutOut
