mod Exact
pub mod LastWord
