pub mod Lanes
pub mod Masks
