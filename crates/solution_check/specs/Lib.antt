pub mod Breaks
pub mod Offers
