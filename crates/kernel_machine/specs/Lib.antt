-- promises
pub mod Visits
-- for this crate's own contracts
pub mod Machines
pub mod Engines
pub mod Blocks
pub mod Ready
pub mod Sites
