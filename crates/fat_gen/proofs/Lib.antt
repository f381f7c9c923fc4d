pub mod Counts
mod PortSteps
pub mod Steps
