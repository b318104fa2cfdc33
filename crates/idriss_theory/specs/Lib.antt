pub mod Tables
pub mod Median
pub mod Sigma
pub mod Rows
pub mod Evaluation
pub mod Ranges
pub mod Promise
pub mod Sizes
