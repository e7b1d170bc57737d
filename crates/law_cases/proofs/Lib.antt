pub mod AsStated
pub mod Computed
pub mod Decided
pub mod Examples
pub mod Neighbours
pub mod None
pub mod Orders
pub mod Places
