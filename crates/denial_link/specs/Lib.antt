pub mod Order
pub mod Keys
pub mod Revived
pub mod Needed
pub mod Links
