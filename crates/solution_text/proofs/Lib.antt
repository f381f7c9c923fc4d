mod Exact
pub mod PathWords
pub mod Judging
pub mod Kept
pub mod LinesLeft
pub mod Written
