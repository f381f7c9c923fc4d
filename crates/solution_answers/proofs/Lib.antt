mod Appended
pub mod Pairs
mod Seen
mod Solving
mod Tellings
