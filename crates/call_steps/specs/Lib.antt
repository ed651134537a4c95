pub mod Alone
pub mod AloneLaws
pub mod Chains
pub mod Ending
pub mod StepLaws
pub mod Steps
pub mod Turns
