pub mod Runs
pub mod RunLaws
pub mod Steps
pub mod StepLaws
pub mod NumberLaws
pub mod RefusalLaws
pub mod PartyLaws
