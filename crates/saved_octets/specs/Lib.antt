pub mod Checksum
pub mod Fault
pub mod Field
pub mod Seal
pub mod Slots
pub mod internal
