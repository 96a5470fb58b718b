pub mod Standing
pub mod Effects
pub mod Reach
pub mod Forms
pub mod Views
pub mod OwnWords
