pub mod Carries
pub mod Checks
pub mod ClassSolutions
pub mod OneAnswer
pub mod ReadBack
