pub mod Combination
pub mod Tables
