pub mod Deciding
mod Seats
