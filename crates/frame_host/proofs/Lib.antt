mod Beginning
mod Ending
mod Lines
mod Making
pub mod Numbering
mod Places
pub mod Sent
mod Turning
