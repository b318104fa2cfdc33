pub mod Areas
pub mod Walk
pub mod TableTests
pub mod Factors
