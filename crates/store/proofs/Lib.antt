mod Asking
mod Disking
pub mod InTurn
mod Keeping
mod Laying
pub mod Recorded
pub mod Turns
