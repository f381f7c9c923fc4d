pub mod CanonLaws
pub mod CanonText
pub mod ClassLines
pub mod CompressText
pub mod Compressing
pub mod GroupLines
pub mod OneAnswer
