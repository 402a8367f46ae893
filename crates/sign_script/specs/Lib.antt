pub mod Asks
pub mod Fields
pub mod Questions
pub mod Spelling
pub mod Verbs
pub mod internal
