pub mod Odd
pub mod Places
pub mod Runs
