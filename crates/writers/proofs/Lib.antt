pub mod Accepted
pub mod HonestLaws
pub mod WriterLaws
