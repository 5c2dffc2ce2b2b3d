pub mod WriteLemmas
pub mod CodesOfWires
pub mod ReadingLemmas
pub mod WriteParts
pub mod WriteDumpWords
pub mod DumpUnique
pub mod Examples
