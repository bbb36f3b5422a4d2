pub mod Definitions
pub mod ComplaintLaws
