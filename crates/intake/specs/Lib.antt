pub mod Announcing
pub mod Intakes
pub mod Wires
