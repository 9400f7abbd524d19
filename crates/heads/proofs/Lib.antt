-- Lemmas about heads and bytes.
pub mod Laid
pub mod Steps
