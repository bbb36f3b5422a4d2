pub mod Bytes
pub mod Tags
