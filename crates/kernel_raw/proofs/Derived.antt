-- What the grammar derives of a kernel spells a raw form, and its names are text.
pub mod Names
pub mod NameTexts
pub mod Parts
pub mod Meanings
pub mod Expressions
pub mod Statements
pub mod Derivations
pub mod Parsing
