pub mod Forms
pub mod Conclusions
