pub mod Fonts
pub mod Signs
