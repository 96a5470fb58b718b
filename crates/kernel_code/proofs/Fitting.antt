-- What is built of a kernel without a fault is a checked kernel: each name fits where it stands.
pub mod Names
pub mod Streams
pub mod Expressions
pub mod Blocks
pub mod Statements
pub mod Kernels
