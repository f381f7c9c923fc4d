pub mod NetworkParts
pub mod OneAnswer
pub mod ReportAnswers
pub mod Summaries
pub mod Trials
