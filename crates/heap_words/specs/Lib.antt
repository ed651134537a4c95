pub mod FieldWordLaws
pub mod FieldWords
pub mod LayoutFaults
pub mod Layouts
pub mod Limits
pub mod Packing
pub mod PlaceLaws
pub mod Places
