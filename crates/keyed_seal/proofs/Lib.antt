pub mod Place
pub mod Masking
pub mod Tags
pub mod Alike
pub mod Comparing
