pub mod Changes
pub mod Indexes
pub mod Left
pub mod Neighbors
