pub mod Opened
pub mod Apart
pub mod Lengths
pub mod Judged
pub mod Refused
pub mod Sizes
pub mod SealedBytes
