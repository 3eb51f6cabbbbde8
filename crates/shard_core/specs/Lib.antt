pub mod Opened
pub mod Names
pub mod Kept
pub mod Letting
pub mod Looking
pub mod Alone
pub mod Cells
