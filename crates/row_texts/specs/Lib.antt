-- promises
pub mod Bars
pub mod Escapes
pub mod Rows
pub mod Tables
