pub mod MemberLines
pub mod Rest
pub mod UnderNames
