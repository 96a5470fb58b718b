-- promises
pub mod Spaces
pub mod Places
pub mod Stores
-- for this crate's own contracts
pub mod Blocks
pub mod Kept
