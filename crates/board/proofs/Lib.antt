mod Defaults
mod Deliveries
pub mod Firsts
mod Performing
mod Rooms
pub mod Sends
