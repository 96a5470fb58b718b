pub mod Noted
pub mod FileTokens
pub mod Derivations
pub mod Reading
