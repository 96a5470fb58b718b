-- promises
pub mod Files
pub mod Loading
-- for this crate's own contracts
pub mod GuardRooms
pub mod Copies
pub mod Writing
pub mod Walking
pub mod Made
