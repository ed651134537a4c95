-- What a pass does without a step.
pub mod Making
pub mod Putting
pub mod Running
pub mod Starting
pub mod Starts
pub mod Taking
