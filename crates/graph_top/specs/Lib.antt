-- promises
pub mod Drawn
pub mod Due
