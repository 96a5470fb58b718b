-- promises
pub mod Arrows
-- for this crate's own contracts
pub mod Marks
