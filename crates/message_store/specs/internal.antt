-- What the code keeps on its way, which no reader of the public contracts needs.
pub mod Pool
pub mod Stored
pub mod Working
pub mod Counted
