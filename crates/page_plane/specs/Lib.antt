pub mod Octets
pub mod Plane
pub mod Put
