pub mod Values
pub mod Bounds
pub mod Domains
pub mod Laws
pub mod StepLaws
pub mod Passing
