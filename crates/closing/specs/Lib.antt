pub mod Closing
pub mod SignatureLaws
