-- promises
pub mod States
pub mod Started
pub mod Locked
pub mod Rooms
pub mod Seats
pub mod Boards
-- for this crate's own contracts
pub mod Layouts
