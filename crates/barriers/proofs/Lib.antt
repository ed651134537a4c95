pub mod objects
pub mod words
