pub mod Colours
pub mod Dots
pub mod Palette
pub mod Ppm
pub mod Painted
pub mod Rows
pub mod Shown
pub mod internal
