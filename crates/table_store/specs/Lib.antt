pub mod Blocks
pub mod Held
