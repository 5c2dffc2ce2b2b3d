pub mod Dump
pub mod Wave
pub mod Reading
