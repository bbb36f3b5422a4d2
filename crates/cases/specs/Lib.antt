pub mod Opened
pub mod Cases
pub mod Packed
