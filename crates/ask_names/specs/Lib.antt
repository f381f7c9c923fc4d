pub mod LinkLookups
pub mod Marks
pub mod NamePairs
pub mod Networks
pub mod Routers
pub mod Selection
