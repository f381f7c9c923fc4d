pub mod ReadBack
mod Short
