pub mod Answering
pub mod Coming
