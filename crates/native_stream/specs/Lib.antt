-- promises
pub mod Layout
pub mod Words
pub mod Effects
pub mod Laws
