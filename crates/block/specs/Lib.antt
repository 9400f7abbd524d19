pub mod Blocks
pub mod Disks
pub mod Laws
pub mod Memories
