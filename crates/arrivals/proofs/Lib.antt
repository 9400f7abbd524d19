pub mod Counting
pub mod Splits
