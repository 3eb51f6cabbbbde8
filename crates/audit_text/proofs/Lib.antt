pub mod Numbering
pub mod Appending
