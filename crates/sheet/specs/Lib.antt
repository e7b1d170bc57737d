pub mod Format
pub mod Lines
pub mod Moves
pub mod Named
pub mod Places
pub mod Reading
pub mod Tokens
