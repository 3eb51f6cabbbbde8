pub mod Saturating
pub mod Gathering
pub mod Held
