pub mod Evaluation
pub mod Promise
pub mod Bound
pub mod Chain
