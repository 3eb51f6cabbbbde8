pub mod DrillCounts
pub mod DrillRuns
pub mod Stopped
pub mod Commands
pub mod Notes
pub mod CheckCommands
pub mod Statuses
pub mod AuditEnds
pub mod Endings
pub mod Replayed
mod LaneStatuses
