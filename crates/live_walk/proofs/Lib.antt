-- What walks are proved by.
pub mod Passing
pub mod Found
pub mod Keeping
pub mod Rooms
pub mod Still
