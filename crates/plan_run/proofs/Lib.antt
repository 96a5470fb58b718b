pub mod Saying
pub mod Printing
pub mod InOps
pub mod Tallies
pub mod Segments
pub mod Running
mod InScriptOrder
