pub mod Lzw
pub mod Gif
pub mod Reader
pub mod Size
pub mod Count
pub mod internal
