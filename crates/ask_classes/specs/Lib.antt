pub mod Answered
pub mod Failing
pub mod Known
pub mod Runs
pub mod Scenes
pub mod Tasks
pub mod Tries
