pub mod Equations
pub mod Ported
pub mod Resettable
pub mod Structure
pub mod Timing
