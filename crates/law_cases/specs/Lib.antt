pub mod Examples
pub mod Law
pub mod Neighbours
pub mod Sheets
