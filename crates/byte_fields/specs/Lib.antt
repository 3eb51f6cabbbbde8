pub mod Steps
pub mod Appends
pub mod Readers
pub mod Formats
pub mod Rows
pub mod RowLaws
