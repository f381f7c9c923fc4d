pub mod Answers
pub mod Forms
pub mod Printed
pub mod Solutions
pub mod Steps
