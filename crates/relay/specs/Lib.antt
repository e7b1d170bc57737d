pub mod Moving
pub mod Carrying
