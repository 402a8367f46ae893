pub mod Prelude
pub mod internal
