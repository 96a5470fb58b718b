-- The tokens of a file, up to the first byte that begins none, and what a parser finds among them.
pub mod Cuts
pub mod Steps
pub mod Blanks
pub mod TokenLemmas
pub mod Lexing
pub mod Sentences
pub mod BadTokens
pub mod NameTexts
pub mod Lexed
