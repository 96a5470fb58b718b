-- What is read of events one after another is the raw form that they spell, and what is kept of it.
pub mod Readings
pub mod Blocks
pub mod Kernels
pub mod Keeping
pub mod KeepingChanges
pub mod KeepingSteps
pub mod Noted
pub mod FirstEvents
