pub mod ColumnLemmas
pub mod WordParts
pub mod StateWords
pub mod NamedSetWords
pub mod NamedReading
pub mod InsertionFaults
pub mod WalkSignals
pub mod WalkLemmas
pub mod LastBuilt
pub mod OneFaultReason
pub mod OneAudit
pub mod AuditBuiltLineages
mod AuditBuiltExamples
pub mod OneCertificate
pub mod FaultReasonExists
pub mod NamedSetsExist
pub mod AuditExists
pub mod FaultSignalLemmas
mod Examples
