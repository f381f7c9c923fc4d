pub mod OneAnswer
pub mod Weighed
pub mod Judged
