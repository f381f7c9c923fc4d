mod ByKeys
pub mod Carried
mod Cells
mod EachRun
mod EarlySteps
pub mod Fewer
mod FirstKinds
mod Least
mod OneStep
mod Places
mod RunEnds
mod RunLinks
mod RunsByHigh
mod SortedSteps
mod StepLists
mod Sums
