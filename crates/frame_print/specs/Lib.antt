-- promises
pub mod Gathering
