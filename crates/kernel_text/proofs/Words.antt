-- What the words of a file are: the longest at a place, and how the first bytes tell which it is.
pub mod Longest
pub mod Runs
pub mod FirstBytes
pub mod Others
pub mod Texts
pub mod Fronts
pub mod FrontsAt
pub mod Begun
pub mod Reserved
