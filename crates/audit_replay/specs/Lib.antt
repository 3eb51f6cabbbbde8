pub mod Legal
pub mod Replays
pub mod Marks
pub mod Stepping
pub mod Ruling
pub mod Passes
