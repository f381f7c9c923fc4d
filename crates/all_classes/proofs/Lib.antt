mod Framed
mod Headlines
mod OnCommands
mod Runs
mod Tellings
mod Words
