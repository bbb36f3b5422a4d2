pub mod Fits
pub mod CongruenceLaws
pub mod ElementLaws
pub mod OrderLaws
pub mod PowerLaws
pub mod Readings
pub mod ScalarLaws
pub mod TrialLaws
