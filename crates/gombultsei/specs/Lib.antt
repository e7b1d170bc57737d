pub mod Numbers
pub mod Run
