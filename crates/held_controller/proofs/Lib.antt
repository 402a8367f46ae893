pub mod Steps
pub mod Boxed
pub mod Moves
