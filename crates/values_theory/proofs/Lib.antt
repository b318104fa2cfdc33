pub mod Constant
pub mod Proved
