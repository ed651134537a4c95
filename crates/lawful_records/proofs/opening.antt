-- The start.
pub mod Counting
pub mod FirstRecords
pub mod FirstStand
pub mod Objects
pub mod Opens
