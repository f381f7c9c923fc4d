mod ActEdges
pub mod Alike
mod Compressing
mod FirstActs
mod LinkCounts
mod Names
mod NoLarger
pub mod Plans
mod Stands
pub mod Texts
