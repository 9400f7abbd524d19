pub mod Networks
pub mod Wires
pub mod Laws
pub mod Frames
pub mod Surveys
