-- promises
pub mod Raw
pub mod Events
pub mod Places
pub mod Sources
pub mod Signs
pub mod Lines
pub mod Items
pub mod Known
-- for this crate's own contracts
pub mod Reading
