pub mod Members
pub mod Once
pub mod Places
pub mod Sorting
pub mod Entries
pub mod Reaching
pub mod Reviving
