-- for this crate's own contracts
pub mod Handles
