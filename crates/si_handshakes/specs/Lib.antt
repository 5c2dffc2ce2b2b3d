pub mod Handshakes
pub mod Loops
