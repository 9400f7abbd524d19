-- What the examples are made of.
pub mod Digit
