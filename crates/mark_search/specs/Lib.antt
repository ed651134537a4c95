pub mod DrawLaws
pub mod Draws
pub mod SeekLaws
pub mod SeekRuns
pub mod Seeks
