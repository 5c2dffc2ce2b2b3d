pub mod Audited
pub mod AuditedLaws
pub mod Works
pub mod System
pub mod Laws
pub mod Loops
