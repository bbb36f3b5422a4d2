pub mod Transcript
pub mod Alike
