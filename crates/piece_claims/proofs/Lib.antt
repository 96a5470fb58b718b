pub mod Listed
mod Placing
mod Counting
mod Following
pub mod Opening
mod Giving
mod Claiming
