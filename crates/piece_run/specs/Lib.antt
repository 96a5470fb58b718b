-- promises
pub mod Visits
