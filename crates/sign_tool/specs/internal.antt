-- What the code keeps on its way, which no reader of the public contracts needs.
pub mod Blocks
pub mod Ready
pub mod Streams
pub mod Hexadecimal
