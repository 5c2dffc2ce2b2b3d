pub mod Unread
pub mod Decimal
pub mod LineParts
pub mod SumParts
pub mod Loops
