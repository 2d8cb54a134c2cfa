pub mod Joined
pub mod JoinedLemmas
