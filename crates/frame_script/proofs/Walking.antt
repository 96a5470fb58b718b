-- The walk over the items of a file: what is left decides on the faults of the whole.
pub mod KeptPlaces
pub mod KeptSays
pub mod KeptOrders
pub mod FaultsLeft
pub mod NamesAreText
pub mod ItemSteps
pub mod EventSteps
