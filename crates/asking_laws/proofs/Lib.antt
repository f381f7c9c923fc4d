pub mod PlainKeys
pub mod Chosen
pub mod Both
pub mod Left
mod NoTies
mod Untied
mod AllOfOne
mod Exists
