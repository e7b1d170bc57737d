pub mod Buffer
pub mod Check
pub mod Frames
