-- promises
pub mod Calls
pub mod Holding
pub mod Hosting
-- for this crate's own contracts
pub mod Filled
