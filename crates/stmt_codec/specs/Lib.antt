pub mod Distinct
pub mod Certificates
pub mod Reading
pub mod Lists
pub mod Seen
pub mod Unique
pub mod Equality
pub mod View
