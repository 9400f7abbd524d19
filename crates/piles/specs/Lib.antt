-- What the contracts of the piles cite.
pub mod Plans
pub mod Words
