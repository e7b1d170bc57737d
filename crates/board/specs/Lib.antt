pub mod Called
pub mod Heard
pub mod Made
pub mod Room
pub mod Upward
