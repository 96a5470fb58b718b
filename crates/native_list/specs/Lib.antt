-- promises
pub mod Layout
pub mod Words
pub mod Conditions
pub mod Effects
pub mod Views
pub mod Laws
