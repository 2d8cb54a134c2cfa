pub mod Keyed
pub mod LmOts
pub mod Runs
pub mod KeyedLemmas
pub mod Law
pub mod Chains
