pub mod Limits
pub mod Starts
pub mod Certify
pub mod Laws
