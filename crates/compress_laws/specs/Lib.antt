pub mod Built
pub mod Compressed
pub mod EmittedLinks
pub mod GroupLinks
pub mod Laws
