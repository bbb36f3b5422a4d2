pub mod Taking
pub mod BundleLaws
pub mod CutLaws
pub mod RowLaws
