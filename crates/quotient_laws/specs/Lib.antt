pub mod Laws
pub mod Links
pub mod Numbered
pub mod Questions
