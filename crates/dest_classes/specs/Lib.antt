pub mod Groups
pub mod Cells
pub mod Lists
pub mod Routes
pub mod Stretches
