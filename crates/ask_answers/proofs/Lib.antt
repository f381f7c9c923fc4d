mod Left
mod Lines
mod Marks
mod Parts
mod Reported
mod Spans
