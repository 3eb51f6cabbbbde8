pub mod Lines
pub mod ShardLines
pub mod ObjectLines
