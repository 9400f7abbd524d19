pub mod Blocks
pub mod Writes
