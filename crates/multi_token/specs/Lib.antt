pub mod Broken
pub mod Counted
pub mod Reading
pub mod Run
pub mod Spelling
pub mod Tokens
