pub mod Rows
pub mod Seats
pub mod Shelves
pub mod Among
pub mod Shares
pub mod Crossing
