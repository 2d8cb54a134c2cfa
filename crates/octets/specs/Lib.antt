pub mod Buffers
pub mod Hex
pub mod Numbers
pub mod Parts
pub mod Search
