pub mod Hexed
pub mod Numbered
pub mod Overs
pub mod Rows
pub mod Sought
mod Steps
