pub mod Passed
pub mod Tested
