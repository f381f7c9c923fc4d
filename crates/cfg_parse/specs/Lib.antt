pub mod MemberSteps
pub mod NamedLists
pub mod Open
pub mod Rest
