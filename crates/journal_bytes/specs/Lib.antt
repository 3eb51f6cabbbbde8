pub mod Spelled
pub mod Spelling
pub mod Limits
pub mod Reading
pub mod JournalsReading
pub mod View
pub mod Numbers
pub mod Events
