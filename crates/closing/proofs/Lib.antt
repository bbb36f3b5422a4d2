pub mod LengthLaws
pub mod SignatureLaws
