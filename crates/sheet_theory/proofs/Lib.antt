pub mod Filling
pub mod Laws
pub mod Turns
