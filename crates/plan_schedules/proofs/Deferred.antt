-- Schedules whose length is that of a list.
pub mod Apart
pub mod Choosing
pub mod GuardPlaces
pub mod ListCapacities
pub mod Lists
pub mod Meaning
pub mod Ready
pub mod Started
pub mod Texts
