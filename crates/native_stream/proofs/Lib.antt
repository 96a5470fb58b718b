pub mod Places
pub mod Standing
pub mod Effects
pub mod Reach
pub mod Forms
