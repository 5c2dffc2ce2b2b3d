mod Examples
pub mod DigitLemmas
pub mod NamesNumbered
pub mod HandshakePhases
pub mod ArcsMade
pub mod HandshakeProper
pub mod HandshakeRefusals
pub mod HandshakeSizes
pub mod HandshakeGraph
pub mod NamesWritten
pub mod HandshakesExist
