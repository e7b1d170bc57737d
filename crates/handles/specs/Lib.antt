pub mod Agreement
pub mod Handles
