pub mod LineWords
pub mod LinesLeft
pub mod Taken
pub mod Odd
mod Runs
