pub mod ListReaders
pub mod ListForms
pub mod Latest
pub mod FindingRows
pub mod OnShelf
pub mod Granting
pub mod Halves
pub mod Operations
