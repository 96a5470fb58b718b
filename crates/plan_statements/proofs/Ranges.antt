-- Statements that make a container, or give a list another range.
pub mod Additions
pub mod Capacities
pub mod Entering
pub mod Makings
pub mod NewContainers
pub mod Ranging
pub mod Regrowing
pub mod Storing
