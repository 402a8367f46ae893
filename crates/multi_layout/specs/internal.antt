-- What the code keeps on its way, which no reader of the public contracts needs.
pub mod AreaDrawing
pub mod AreaReading
pub mod Bracketed
pub mod Cursors
pub mod PageDrawing
pub mod Passing
pub mod RunDrawing
pub mod Told
