pub mod Boards
pub mod Calls
pub mod Ends
pub mod Firsts
pub mod Spelt
