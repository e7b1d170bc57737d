pub mod Stage
pub mod Sound
