-- promises
pub mod Raw
pub mod RawEvents
pub mod RawTexts
pub mod Depths
pub mod Parsing
pub mod Legible
-- for this crate's own contracts
pub mod Reading
pub mod Keeping
pub mod Edges
pub mod Widths
