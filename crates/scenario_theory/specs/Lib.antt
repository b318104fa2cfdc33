pub mod Checks
pub mod Distances
pub mod Refusal
pub mod Numbers
pub mod Neighbours
pub mod Rows
pub mod Accepted
