pub mod Plans
pub mod Layers
pub mod Keeps
