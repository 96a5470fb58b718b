pub mod GuardedRuns
pub mod Lengths
pub mod GuardFitting
pub mod Deferring
