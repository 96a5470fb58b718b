-- promises
pub mod Names
pub mod Pieces
pub mod Touches
pub mod Operations
pub mod Effects
pub mod Graphs
pub mod Reading
pub mod Output
pub mod Reports
pub mod Ordered
pub mod Know
pub mod Laws
pub mod Framed
pub mod Touched
pub mod Tallies
pub mod Events
-- for this crate's own contracts
pub mod Spans
pub mod Rights
pub mod Empty
