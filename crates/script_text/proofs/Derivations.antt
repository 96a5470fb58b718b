-- What a derivation of a file means: which raw forms its events spell, production by production.
pub mod Trees
pub mod Chains
pub mod Meanings
pub mod Clauses
pub mod Statements
pub mod Files
