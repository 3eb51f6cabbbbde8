pub mod Words
pub mod Opened
pub mod Sent
pub mod Grown
