pub mod Gathering
pub mod Parts
pub mod Digits
pub mod Listing
pub mod Words
