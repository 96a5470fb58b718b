-- promises
pub mod Parts
pub mod Stories
pub mod Boxes
pub mod Arrows
pub mod Pictures
-- for this crate's own contracts
pub mod Marks
pub mod Contests
