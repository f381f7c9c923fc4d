pub mod NumberingLemmas
pub mod MemberLemmas
pub mod ArrivalLemmas
pub mod ClassLemmas
mod ClassNameLemmas
pub mod QueueLemmas
pub mod RenumberLemmas
pub mod PlanLemmas
pub mod PinnedLemmas
pub mod DivisionLemmas
pub mod StayingLemmas
pub mod MoveLemmas
pub mod TurnLemmas
pub mod RefineLemmas
pub mod SplittingLemmas
pub mod RunLemmas
mod TakenLemmas
