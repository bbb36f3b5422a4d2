pub mod Definitions
pub mod BasisLaws
