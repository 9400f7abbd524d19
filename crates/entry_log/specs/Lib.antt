-- What the contracts of the log cite.
pub mod Kinds
pub mod Items
