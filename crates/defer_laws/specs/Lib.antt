-- promises
pub mod Deferring
-- for this crate's own contracts
pub mod GuardedRuns
