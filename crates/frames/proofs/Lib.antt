pub mod Making
pub mod Places
