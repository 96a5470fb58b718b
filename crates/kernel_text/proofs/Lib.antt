mod Examples
pub mod Words
pub mod Marks
pub mod Tokens
pub mod Decimals
pub mod Values
pub mod Glances
