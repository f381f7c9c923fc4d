mod Groupings
mod OneAnswer
mod OnePlan
mod Summaries
mod Trials
