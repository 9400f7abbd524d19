-- What the contracts of the queue cite.
pub mod Kept
pub mod Layout
