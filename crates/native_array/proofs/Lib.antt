pub mod Places
pub mod Forms
pub mod Parts
pub mod Standing
