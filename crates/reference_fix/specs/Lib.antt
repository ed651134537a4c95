pub mod MovedLinks
pub mod FieldFixes
pub mod RootFixes
pub mod FixWalks
pub mod FixWalkRuns
