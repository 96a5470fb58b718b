mod Filling
mod HostValues
pub mod Sent
mod Walks
