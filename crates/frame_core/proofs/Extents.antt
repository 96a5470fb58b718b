-- What pieces touch: footprints, and what lies in them.
pub mod Touching
pub mod Within
pub mod Hitting
pub mod Footprints
pub mod Touched
