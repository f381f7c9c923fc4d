pub mod Parts
pub mod RestFalls
pub mod Rests
