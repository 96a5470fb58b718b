-- promises
pub mod Boxes
