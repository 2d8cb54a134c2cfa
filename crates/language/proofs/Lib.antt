pub mod Stops
pub mod Named
pub mod Worded
mod Decimals
