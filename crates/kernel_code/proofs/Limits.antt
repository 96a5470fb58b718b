-- What is built of a kernel without a fault is within all limits: nodes, depth, locals and parameters.
pub mod Levels
pub mod Depths
pub mod Params
pub mod Kernels
pub mod Rooms
