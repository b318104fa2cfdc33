pub mod Models
pub mod Ranges
pub mod Evaluation
pub mod Promise
pub mod Steps
pub mod Flat
