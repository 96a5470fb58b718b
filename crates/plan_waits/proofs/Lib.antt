pub mod Lists
pub mod Coming
pub mod Starting
pub mod Reducing
pub mod Walking
