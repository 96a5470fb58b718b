-- promises
pub mod Traces
pub mod Events
