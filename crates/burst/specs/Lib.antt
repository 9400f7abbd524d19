pub mod Bursts
pub mod Calls
pub mod Counts
pub mod Audits
