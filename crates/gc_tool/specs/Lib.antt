pub mod Forms
pub mod Memories
pub mod Outside
pub mod Runs
pub mod Statuses
