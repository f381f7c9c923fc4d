mod Filters
mod ActsSoFar
mod Joined
mod Keys
mod Starts
mod Kept
mod Meeting
mod MarkLemmas
pub mod NoneDown
