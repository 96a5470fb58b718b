pub mod Shortest
pub mod Fronts
pub mod Checks
pub mod Run
pub mod Closes
pub mod Steps
pub mod Stacks
