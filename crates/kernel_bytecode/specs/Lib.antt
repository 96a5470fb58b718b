-- promises
pub mod Running
pub mod Compiling
pub mod Statements
pub mod Laws
pub mod BlockLaws
pub mod Codes
pub mod Safe
pub mod CodeLaws
pub mod Sizes
-- for this crate's own contracts
pub mod Fitting
