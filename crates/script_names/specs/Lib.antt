-- promises
pub mod Names
-- for this crate's own contracts
pub mod Index
pub mod Firsts
