pub mod Answers
pub mod Keytypes
