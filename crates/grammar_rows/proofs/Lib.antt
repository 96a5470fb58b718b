pub mod Walk
pub mod Marks
mod RowsKernels
mod RowsExpressions
mod RowsStatements
mod RowsFiles
mod RowsFollowing
mod RowsFollowingStatements
mod RowsWords
