-- promises
pub mod Words
pub mod Spellings
pub mod Tokens
pub mod Marks
pub mod Numbers
-- for this crate's own contracts
pub mod Fronts
pub mod Letters
