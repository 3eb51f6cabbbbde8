mod Presenting
mod Arriving
mod Parts
mod Telling
mod AtHome
mod EffectSteps
mod Performed
mod Dues
mod Decisions
mod Guards
mod AtItsObject
mod Drafting
mod Courses
mod Pulls
mod Desks
mod Payloads
pub mod Keyed
