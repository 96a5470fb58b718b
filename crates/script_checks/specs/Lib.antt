-- promises
pub mod Faults
pub mod Spelling
pub mod Checks
-- for this crate's own contracts
pub mod KernelIndex
pub mod Scheduled
