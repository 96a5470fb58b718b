-- The tree that is built of the nodes of a kernel is the one that its raw form is.
pub mod Leaves
pub mod Expressions
pub mod Blocks
pub mod CountedBlocks
pub mod Statements
pub mod Kernels
pub mod Counting
