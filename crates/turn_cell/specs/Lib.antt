pub mod Journal
pub mod Known
pub mod Line
pub mod Rule
pub mod Steps
