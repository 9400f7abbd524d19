pub mod Blocks
pub mod Disks
pub mod Media
pub mod Records
pub mod Stores
