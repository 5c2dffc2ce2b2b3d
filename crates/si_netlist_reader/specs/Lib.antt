pub mod GateParts
pub mod NetlistFault
pub mod NetlistValue
pub mod Loops
