-- promises
pub mod Laws
