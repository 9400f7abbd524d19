-- What the kinds of entries are.
pub mod Kinds
