pub mod Going
mod Keeping
pub mod Cited
mod Roomless
pub mod Short
pub mod Staying
mod Places
mod Filling
mod Running
mod Steps
mod Firsts
mod Agreeing
mod Excluding
mod Causes
mod Verdicts
mod Effecting
mod Ascending
mod Unchanged
mod Growing
mod Walks
mod Hindering
mod Judging
pub mod CertWalks
mod Complete
pub mod Whole
pub mod Connections
mod OwnSteps
mod Caused
mod CausesApart
mod PullCauses
mod OneRuling
mod LoneRuling
mod OneCourse
mod PullsApart
mod Twins
pub mod EffectTold
