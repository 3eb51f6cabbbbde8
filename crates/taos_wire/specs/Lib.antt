pub mod Request
pub mod View
pub mod RequestReading
pub mod Reply
pub mod ReplyReading
pub mod Heads
