mod Advanced
mod Block
mod Called
mod Ended
mod Laned
mod Ordered
mod Spelling
mod Stepping
mod Summed
pub mod Valued
mod Verdicts
pub mod Written
