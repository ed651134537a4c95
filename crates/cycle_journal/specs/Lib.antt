pub mod LastHeaps
pub mod Lines
