pub mod Keys
pub mod Names
pub mod Nesting
pub mod SignKeys
pub mod SignFile
pub mod internal
