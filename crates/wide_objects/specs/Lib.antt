pub mod WideWords
pub mod WideWordLaws
pub mod Changes
pub mod Statuses
pub mod StatusLaws
