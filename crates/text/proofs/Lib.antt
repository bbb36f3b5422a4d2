pub mod LineLaws
pub mod PlaceLaws
pub mod TextLaws
