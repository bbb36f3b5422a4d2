pub mod Summaries
pub mod SummaryLaws
