mod Closing
pub mod Counts
pub mod Crossing
mod Ends
mod Giving
mod Joined
pub mod Nodes
pub mod Numbered
mod Opening
mod Relayed
mod Rows
mod Runs
mod Sat
pub mod Small
mod SoFar
mod Totals
