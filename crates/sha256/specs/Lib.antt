pub mod Sha256
pub mod Hashed
pub mod Lane
