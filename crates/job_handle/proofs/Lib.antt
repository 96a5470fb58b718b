pub mod Booleans
pub mod Bits
pub mod Rows
pub mod Words
pub mod Among
pub mod Greatest
