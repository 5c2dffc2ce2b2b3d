pub mod GivenNetlists
pub mod SuggestionsExist
pub mod SuggestionLaws
pub mod SuggestedLineages
pub mod SuggestedCells
pub mod SuggestedTexts
