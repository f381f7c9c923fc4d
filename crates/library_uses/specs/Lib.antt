pub mod Asked
pub mod Degrees
pub mod InMaps
