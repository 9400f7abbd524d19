pub mod Exchanges
pub mod Hearing
