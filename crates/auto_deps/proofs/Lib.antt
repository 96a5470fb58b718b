pub mod Covered
pub mod Chosen
pub mod Noted
