-- promises
pub mod Cuts
