pub mod Trees
pub mod Kernel
pub mod Kernels
mod Script
mod RowsKernels
mod RowsConflicts
mod RowsRefusals
mod RowsContainers
mod RowsLifetimes
mod RowsParallel
mod RowsAutomatic
mod RowsTraps
pub mod CheckedKernels
mod Steps
mod Limits
mod Spans
mod AcceptedScripts
