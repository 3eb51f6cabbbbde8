pub mod Whole
pub mod Crossing
