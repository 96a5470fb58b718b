-- promises
pub mod Escapes
pub mod Graphs
pub mod Places
pub mod Layouts
pub mod Pages
