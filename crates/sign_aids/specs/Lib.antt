pub mod Explain
pub mod Lit
pub mod Pictures
pub mod internal
