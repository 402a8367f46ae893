pub mod Moving
pub mod Looks
pub mod Reel
pub mod Period
pub mod Film
