pub mod Lists
pub mod Leases
mod Showing
pub mod Claiming
pub mod Starters
pub mod Cells
pub mod Ends
pub mod Counts
pub mod Opens
pub mod Leased
pub mod Knowing
pub mod Closed
pub mod Naming
pub mod Seated
pub mod Dealt
pub mod Laying
pub mod Starting
pub mod Ruling
