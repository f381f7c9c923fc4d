mod Answered
mod CarriedBack
mod Chains
mod FewLinks
mod Numbered
mod Pictures
