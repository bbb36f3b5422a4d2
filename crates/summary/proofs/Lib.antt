pub mod Reading
pub mod CountLaws
pub mod Counted
pub mod ReadLaws
pub mod ShortLaws
pub mod StageLaws
