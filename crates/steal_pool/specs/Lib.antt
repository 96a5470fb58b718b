-- promises
pub mod Laws
pub mod Rooms
pub mod Sections
pub mod Turns
-- for this crate's own contracts
pub mod Crews
pub mod Seats
