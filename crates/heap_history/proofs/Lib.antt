pub mod WorkedSession
pub mod Objects
pub mod Insertions
pub mod Refusals
