pub mod Sizes
pub mod Output
pub mod Transfers
pub mod Steps
