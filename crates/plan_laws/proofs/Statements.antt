-- What the other statements add to a plan.
pub mod Changing
pub mod Completing
pub mod Disposing
pub mod Frames
pub mod Making
pub mod Moving
pub mod Printing
pub mod AccessingWords
pub mod AccessingSteps
pub mod Accessing
pub mod Writable
pub mod Refusing
pub mod Usable
pub mod Filling
