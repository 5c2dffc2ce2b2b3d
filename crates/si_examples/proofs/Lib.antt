mod CElement
mod Toggle
mod Bits
mod Words
