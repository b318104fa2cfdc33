pub mod Less
pub mod Promise
pub mod Evaluation
