-- promises
pub mod Claims
pub mod Followers
pub mod Given
