pub mod Definitions
pub mod TrialLaws
