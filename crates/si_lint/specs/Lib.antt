pub mod Findings
pub mod LintText
pub mod Laws
pub mod Loops
