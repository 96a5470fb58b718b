pub mod Copied
pub mod SizeLemmas
