pub mod Codes
pub mod Visiting
