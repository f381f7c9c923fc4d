pub mod Maps
pub mod Printable
pub mod Same
pub mod Sessions
pub mod Within
