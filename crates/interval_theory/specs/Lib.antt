pub mod Bound
pub mod Natural
pub mod Signed
