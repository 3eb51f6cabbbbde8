pub mod Routes
pub mod Words
pub mod Table
pub mod Checking
pub mod Files
pub mod Findings
pub mod Minting
pub mod Paths
