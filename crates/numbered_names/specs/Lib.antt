pub mod Hashing
pub mod NamePlaces
pub mod NameSets
