pub mod Moved
pub mod Causes
pub mod FixWalks
pub mod RootFixing
