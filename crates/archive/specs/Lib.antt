pub mod Disks
pub mod Errors
pub mod Rooms
pub mod Stores
