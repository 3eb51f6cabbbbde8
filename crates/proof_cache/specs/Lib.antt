pub mod Lease
pub mod Cached
pub mod Cache
pub mod Mark
