-- promises
pub mod Bindings
pub mod Layouts
pub mod Missing
pub mod Names
pub mod Sections
pub mod Works
-- for this crate's own contracts
pub mod References
pub mod Resuming
pub mod Runs
