pub mod Alike
mod Asked
pub mod Framing
mod Growing
mod Lines
pub mod Looping
mod OnCells
mod Rooms
pub mod Clauses
mod Tables
mod Naming
pub mod Saying
mod Sectioning
pub mod Seeing
pub mod Settling
mod Sources
pub mod Telling
mod Whens
