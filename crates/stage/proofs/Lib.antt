pub mod Behind
pub mod Calls
pub mod Fetches
pub mod Filling
pub mod Models
