pub mod Headers
pub mod Kinds
pub mod Refusals
pub mod Requests
pub mod Rules
pub mod Texts
