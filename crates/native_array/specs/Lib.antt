-- promises
pub mod Layout
pub mod Words
pub mod Effects
pub mod Slices
pub mod Laws
