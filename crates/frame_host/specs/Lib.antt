-- promises
pub mod Scripts
pub mod Reports
pub mod Frames
pub mod Reading
