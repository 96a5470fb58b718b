-- promises
pub mod Places
