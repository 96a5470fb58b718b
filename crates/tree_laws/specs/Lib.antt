-- promises
pub mod Same
pub mod Laws
