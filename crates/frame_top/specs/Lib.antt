-- promises
pub mod Statuses
pub mod Words
pub mod Inputs
pub mod Refusals
pub mod Answers
pub mod Sources
pub mod Seen
-- for this crate's own contracts
pub mod Asking
pub mod Cells
pub mod Columns
pub mod Running
