-- What is written of a file so far, and that the rest of the file completes it.
pub mod Marks
pub mod Put
pub mod Parts
pub mod Copies
pub mod Blocks
pub mod Counts
pub mod Repeats
pub mod Items
pub mod RepeatCounts
