pub mod States
pub mod Headers
pub mod HeaderLaws
pub mod Changes
pub mod ChangeLaws
