mod DepthExamples
pub mod Derived
pub mod RunningDepths
pub mod Reading
pub mod Widths
pub mod KeptDepths
