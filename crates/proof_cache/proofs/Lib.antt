mod Least
pub mod Lists
pub mod Marks
pub mod One
mod Rows
