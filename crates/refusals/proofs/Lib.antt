pub mod RefusalLaws
pub mod NumberLaws
