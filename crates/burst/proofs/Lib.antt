mod Placing
mod Auditing
