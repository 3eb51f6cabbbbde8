pub mod Lists
pub mod Places
pub mod Keys
pub mod Entries
pub mod Again
