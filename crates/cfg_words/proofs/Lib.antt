pub mod CommonHeads
pub mod Longest
pub mod Begun
