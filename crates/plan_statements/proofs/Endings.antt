-- Containers that end, and ranges that come back: what a planner stands for afterwards.
pub mod Continuing
pub mod Counting
pub mod Ending
pub mod Giving
pub mod Holding
pub mod Settling
