pub mod Routes
pub mod BestChoices
pub mod AtRest
pub mod Runs
mod KnownRests
pub mod Reaching
pub mod Below
pub mod ShortPaths
pub mod Walks
pub mod RoundsEnough
pub mod OneOrder
mod HasOrder
pub mod AlikeRuns
mod NoneLone
mod ScheduleRouters
mod WordsLeft
mod RankOrder
