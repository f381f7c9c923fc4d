pub mod Atlases
pub mod Plans
pub mod Questions
pub mod Reading
pub mod Reports
