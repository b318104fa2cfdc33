pub mod Octave
pub mod Newton
pub mod Remainder
pub mod Sum
pub mod Laws
pub mod Enclosure
pub mod Bounds
pub mod Chain
