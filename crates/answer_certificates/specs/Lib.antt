pub mod Agreement
pub mod Certified
pub mod OneAnswer
pub mod Verified
