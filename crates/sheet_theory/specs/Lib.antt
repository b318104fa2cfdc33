pub mod Promise
pub mod Evaluation
