pub mod Frames
pub mod Headlines
pub mod Meets
pub mod Progress
pub mod Requests
pub mod Tellings
pub mod Work
