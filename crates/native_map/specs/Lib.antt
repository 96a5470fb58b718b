-- promises
pub mod Places
pub mod Table
pub mod Words
pub mod Layout
pub mod Laws
pub mod Effects
