pub mod ClassNumbers
pub mod Groups
pub mod Kinds
pub mod Networks
pub mod Outcome
pub mod Replies
pub mod SecondFiles
