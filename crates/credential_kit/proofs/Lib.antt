pub mod Deriving
pub mod Chains
