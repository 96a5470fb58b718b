-- promises
pub mod Table
pub mod Predict
pub mod Stack
pub mod StackSymbols
-- for this crate's own contracts
pub mod Sets
