pub mod Theory
pub mod Ends
