-- What plans are proved by.
pub mod Rising
pub mod Strip
pub mod Found
pub mod Progress
pub mod Copies
pub mod Laid
pub mod Moved
pub mod Chosen
