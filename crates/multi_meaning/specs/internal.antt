-- What laws and proofs say of the items so far, which no reader of the public contracts needs.
pub mod Bounds
pub mod FillOpen
pub mod Fine
pub mod Fits
pub mod ItemAt
pub mod Places
pub mod Present
