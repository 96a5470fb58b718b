pub mod Folds
pub mod Runs
pub mod Settings
pub mod Scripts
pub mod Checks
pub mod Itself
