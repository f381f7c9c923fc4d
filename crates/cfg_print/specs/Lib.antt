pub mod Fronts
pub mod Prints
