pub mod Each
pub mod Cells
pub mod Room
pub mod Shards
pub mod Objects
pub mod Laws
