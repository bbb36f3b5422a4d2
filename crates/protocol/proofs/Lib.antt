pub mod AlikeLaws
pub mod ProductLaws
pub mod ShiftLaws
pub mod Signature
