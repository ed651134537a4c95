pub mod Words
pub mod Entries
pub mod Answers
pub mod Cycles
pub mod Leavings
pub mod Reports
