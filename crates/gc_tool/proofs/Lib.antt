pub mod Causes
pub mod Headline
pub mod Known
mod StatusLines
