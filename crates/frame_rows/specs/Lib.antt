-- promises
pub mod Between
pub mod NewSeats
