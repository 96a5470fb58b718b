-- promises
pub mod Timelines
pub mod Shapes
