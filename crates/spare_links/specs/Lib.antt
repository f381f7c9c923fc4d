pub mod Spare
pub mod Standing
pub mod Ways
