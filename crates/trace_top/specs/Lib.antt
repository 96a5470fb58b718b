-- promises
pub mod Traced
