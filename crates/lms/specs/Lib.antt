pub mod Accepted
pub mod Keyed
pub mod Kinds
pub mod Lms
pub mod KeyedLemmas
pub mod Climbing
