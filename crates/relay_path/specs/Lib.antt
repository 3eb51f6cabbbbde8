pub mod Carrying
pub mod Domains
pub mod Hopping
pub mod Opening
pub mod Paths
pub mod Going
pub mod PathFile
pub mod PathView
