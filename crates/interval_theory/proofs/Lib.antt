pub mod NaturalValues
pub mod NaturalBounds
pub mod Bounded
pub mod SignedValues
pub mod SignedBounds
pub mod Hulls
