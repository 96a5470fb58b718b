-- promises
pub mod Binds
pub mod Footprint
pub mod Layout
pub mod Words
pub mod Conditions
pub mod Runs
pub mod Laws
pub mod Notes
-- for this crate's own contracts
pub mod Calls
