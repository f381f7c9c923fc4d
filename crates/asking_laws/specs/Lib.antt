pub mod Spare
pub mod Unique
