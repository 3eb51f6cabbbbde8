pub mod Appending
pub mod ReplyFronts
pub mod Lines
pub mod Places
pub mod Sums
