pub mod Answered
pub mod Backing
pub mod Changes
pub mod FrameBytes
pub mod Limits
pub mod Queue
pub mod Tables
