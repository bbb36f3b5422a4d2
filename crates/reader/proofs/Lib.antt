pub mod Reading
pub mod Endings
pub mod LengthLaws
pub mod PageLaws
pub mod ReportLaws
pub mod StretchLaws
pub mod TagLaws
pub mod TurnLaws
