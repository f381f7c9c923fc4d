pub mod Keys
pub mod Lone
pub mod Same
