pub mod Beginning
pub mod Following
pub mod Meeting
pub mod Replies
pub mod Starting
pub mod Telling
pub mod Turning
