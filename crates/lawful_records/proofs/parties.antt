pub mod Assembling
pub mod Counts
pub mod PassKeeps
pub mod Pasts
pub mod Seals
