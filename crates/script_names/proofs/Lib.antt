pub mod NameLemmas
pub mod IndexLemmas
pub mod FirstLemmas
pub mod PlaceLemmas
pub mod TextLemmas
