-- promises
pub mod Scopes
pub mod StaticFaults
pub mod Trees
-- for this crate's own contracts
pub mod Known
pub mod Places
