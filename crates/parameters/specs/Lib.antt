pub mod Definitions
pub mod ParameterLaws
