-- The lemmas behind the loops and searches, and those that the users of a log need.
pub mod Loops
pub mod Searches
pub mod Updates
pub mod Handing
pub mod Handed
