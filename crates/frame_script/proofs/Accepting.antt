-- A script that the items of a file parse to is one that the meaning of scripts accepts.
pub mod Places
pub mod Names
pub mod Fits
pub mod Makes
pub mod Uses
pub mod Schedules
pub mod Orders
pub mod Scopes
pub mod Copies
pub mod Items
pub mod Counts
pub mod Scripts
