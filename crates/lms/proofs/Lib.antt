mod Acceptance
mod Growth
mod Levels
mod Rooted
mod Verdicts
