pub mod Blames
pub mod Shares
