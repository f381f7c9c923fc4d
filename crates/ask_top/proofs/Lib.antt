mod AsMany
mod LeftAlike
mod OneOutcome
mod Ran
mod SameParts
mod SameReports
mod SameVerdicts
