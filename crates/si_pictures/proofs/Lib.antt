mod Examples
pub mod WritingParts
pub mod CodeLemmas
pub mod InConflictMarks
pub mod TokenReading
pub mod GrammarStatements
pub mod OneTokenReading
pub mod PictureLemmas
pub mod SeenLemmas
pub mod PictureLaws
