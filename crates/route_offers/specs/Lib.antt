pub mod Lone
pub mod Offers
