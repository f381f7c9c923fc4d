mod ActCounts
pub mod JsonTexts
pub mod LineSteps
mod LinkSums
pub mod Reported
mod TableSteps
