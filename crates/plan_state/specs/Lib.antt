-- promises
pub mod Growth
pub mod Works
-- for the contracts of this crate and of those above it
pub mod Stands
pub mod Steps
pub mod Answers
pub mod Accesses
pub mod Copies
pub mod Starts
