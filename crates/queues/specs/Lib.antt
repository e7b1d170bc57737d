pub mod Rows
pub mod Slots
pub mod Model
pub mod Sound
