pub mod MadePlaces
pub mod SaidLemmas
pub mod KernelWalks
pub mod Writing
pub mod Accepting
pub mod Walking
pub mod Loads
