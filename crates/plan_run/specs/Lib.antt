-- promises
pub mod Says
pub mod Runs
pub mod ScriptOrder
-- for this crate's own contracts
pub mod Lines
