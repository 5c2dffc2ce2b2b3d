pub mod Suggestion
pub mod Suggested
pub mod SuggestedLaws
