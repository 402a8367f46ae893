-- What the code keeps on its way, which no reader of the public contracts needs.
pub mod Coding
pub mod Writing
pub mod Packing
