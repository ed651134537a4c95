pub mod Notes
pub mod Noting
pub mod Passing
pub mod StillWords
pub mod Walks
