-- What the contracts of the queue and of its users cite.
pub mod Limits
pub mod Heads
pub mod Kept
pub mod Laid
