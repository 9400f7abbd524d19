pub mod States
pub mod Calls
pub mod Rules
pub mod Replies
