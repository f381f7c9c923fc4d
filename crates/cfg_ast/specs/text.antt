-- What a text is: lines and words, the heads and forms of lines, and the network that they are read as.
pub mod Answers
pub mod FormSteps
pub mod Heads
pub mod Lines
pub mod Members
pub mod PolicyForms
pub mod PolicyLines
pub mod Reading
pub mod RouterForms
pub mod Stanzas
pub mod Steps
pub mod TextLines
pub mod Words
