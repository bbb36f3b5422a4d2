pub mod Loops
pub mod CombinedLaws
pub mod PowerLaws
pub mod TableLaws
