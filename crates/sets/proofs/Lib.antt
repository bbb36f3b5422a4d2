pub mod BitLaws
pub mod LaneLaws
pub mod MaskLaws
pub mod MemberLaws
pub mod Sizes
pub mod WidthLaws
pub mod BesideLaws
