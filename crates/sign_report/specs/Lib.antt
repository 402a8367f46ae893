pub mod Document
pub mod Lines
pub mod Permanents
pub mod Setup
