pub mod LonePaths
mod Members
pub mod Same
