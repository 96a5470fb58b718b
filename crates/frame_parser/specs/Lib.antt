-- promises
pub mod Notes
-- for this crate's own contracts
pub mod Parser
pub mod Shortcuts
pub mod Values
pub mod Operands
