-- The lemmas behind the theorems, and those that users of a compaction need.
pub mod Filters
pub mod Sameness
pub mod Compacting
pub mod Replaying
pub mod Standing
pub mod Counting
pub mod Placing
