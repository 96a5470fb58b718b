-- promises
pub mod Numbers
pub mod Rows
pub mod Columns
-- for this crate's own contracts
pub mod Plain
