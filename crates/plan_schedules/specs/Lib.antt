-- for this crate's own contracts
pub mod Uses
pub mod Causes
pub mod Noting
pub mod JobBinds
pub mod Starting
pub mod Deferring
