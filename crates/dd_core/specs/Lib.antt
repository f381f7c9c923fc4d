pub mod Fixed
pub mod Marks
pub mod Reach
pub mod Remembering
pub mod Restrict
pub mod Sets
pub mod Store
pub mod Value
