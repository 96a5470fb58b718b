-- promises
pub mod Sets
pub mod Books
-- for this crate's own contracts
pub mod Extent
