-- promises
pub mod Words
pub mod Views
pub mod Rule
pub mod Plays
pub mod Naming
pub mod Boards
pub mod Laws
-- for this crate's own contracts
pub mod Seats
