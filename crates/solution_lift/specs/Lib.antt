pub mod Carried
pub mod Carrying
pub mod Lasts
pub mod Laws
pub mod Members
pub mod Sides
