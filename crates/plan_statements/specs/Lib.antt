-- promises
pub mod Tables
-- for this crate's own contracts
pub mod Making
pub mod Capacity
pub mod Completions
pub mod Endings
pub mod Frames
pub mod Tests
pub mod Views
pub mod Waiting
