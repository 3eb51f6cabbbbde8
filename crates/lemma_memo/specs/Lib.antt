pub mod Memory
pub mod Question
pub mod Kept
