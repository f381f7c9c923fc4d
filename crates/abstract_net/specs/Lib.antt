pub mod Carried
pub mod Links
pub mod GroupSteps
pub mod Early
pub mod Least
