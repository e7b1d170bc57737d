pub mod Agreement
pub mod Carrier
pub mod Items
pub mod Meaning
pub mod Playing
