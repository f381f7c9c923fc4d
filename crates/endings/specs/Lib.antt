pub mod Findings
pub mod Meets
pub mod Telling
