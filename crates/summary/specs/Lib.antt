pub mod Consumed
pub mod Short
