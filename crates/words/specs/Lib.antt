pub mod Faults
pub mod Lengths
pub mod Numbers
pub mod Parts
