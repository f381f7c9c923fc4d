pub mod meaning
pub mod printing
pub mod text
