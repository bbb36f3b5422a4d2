pub mod Numbers
pub mod Stages
