pub mod Rows
pub mod Bounds
pub mod Laws
pub mod SigmaLaws
pub mod Accepted
pub mod Ranges
pub mod Between
