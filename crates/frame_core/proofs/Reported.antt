-- What a plan reports: its traps by number and order, and their counts.
pub mod OwnWords
pub mod Traps
pub mod TrapNumbers
pub mod Tallies
pub mod Rising
