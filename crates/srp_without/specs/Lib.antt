pub mod Accepting
pub mod Left
