pub mod Laws
pub mod MemberLaws
pub mod Notes
pub mod ShortMaps
