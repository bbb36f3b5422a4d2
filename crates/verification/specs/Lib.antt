pub mod Definitions
pub mod Tests
pub mod VerificationLaws
