pub mod Search
pub mod Order
pub mod Conversion
pub mod Laws
