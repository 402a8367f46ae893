pub mod Cures
pub mod Edits
pub mod Shown
pub mod Taking
