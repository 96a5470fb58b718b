-- promises
pub mod Stages
