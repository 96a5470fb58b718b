-- What the events of statements, kernels and files are read as, one event after another.
pub mod ClauseEvents
pub mod Values
pub mod Orders
pub mod Endings
pub mod PlainScalars
pub mod KnownOrders
pub mod KernelEnds
pub mod OpenItems
