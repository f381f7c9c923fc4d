pub mod Findings
mod Lines
pub mod Runs
