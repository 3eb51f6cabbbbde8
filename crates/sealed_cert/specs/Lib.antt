pub mod Seals
pub mod Refusals
pub mod Causes
