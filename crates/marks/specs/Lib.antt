-- What the contracts of the marks cite.
pub mod First
