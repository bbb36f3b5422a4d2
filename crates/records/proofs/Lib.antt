pub mod MaskLaws
pub mod RecordLaws
