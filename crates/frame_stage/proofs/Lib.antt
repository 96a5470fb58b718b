mod Rooms
mod Seeing
pub mod Sent
