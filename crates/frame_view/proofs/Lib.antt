pub mod Cuts
pub mod Following
mod Whole
