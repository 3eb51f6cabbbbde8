pub mod Tag
pub mod Keys
pub mod Ready
