pub mod Texts
pub mod Held
pub mod Opening
pub mod Laws
