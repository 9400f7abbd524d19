pub mod Samples
pub mod Sounds
pub mod Laws
