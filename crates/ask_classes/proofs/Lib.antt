mod Knowing
mod Losses
mod Parts
mod Runs
mod Trying
