pub mod Grown
pub mod Spaced
