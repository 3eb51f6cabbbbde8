mod Alone
pub mod Caching
pub mod Ending
pub mod Fronts
pub mod Hitting
pub mod JournalCounting
pub mod Knowing
mod Legal
pub mod Lists
pub mod LoadCounting
pub mod LoadOwning
pub mod Made
pub mod Members
pub mod Opened
pub mod Ordering
mod Owning
mod Placing
pub mod Ruling
mod Rulings
pub mod States
pub mod Turning
mod Writable
pub mod Audited
pub mod Brought
