pub mod Between
pub mod Evaluation
pub mod Steps
pub mod Promise
