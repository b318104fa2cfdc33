pub mod Less
pub mod Leading
pub mod Marks
pub mod Screening
pub mod Laws
pub mod TwoColumns
pub mod Steps
