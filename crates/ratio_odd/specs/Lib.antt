pub mod Numbers
pub mod Watched
