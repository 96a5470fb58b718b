-- promises
pub mod GraphWords
