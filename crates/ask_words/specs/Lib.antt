pub mod ClassWords
pub mod Commands
pub mod Lines
pub mod NameLists
pub mod Questions
pub mod Tasks
pub mod Words
