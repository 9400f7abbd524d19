-- Entries, their compaction and their replay, and the theorems.
pub mod Kinds
pub mod Compaction
pub mod Places
pub mod Replay
pub mod Tally
pub mod Theorems
