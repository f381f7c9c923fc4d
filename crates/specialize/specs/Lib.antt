pub mod Answers
pub mod OnePrefix
pub mod Places
pub mod Printable
pub mod Sessions
