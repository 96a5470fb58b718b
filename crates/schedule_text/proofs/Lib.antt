pub mod Found
pub mod Used
pub mod Lines
