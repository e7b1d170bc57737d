pub mod Counts
pub mod OnlyWritten
pub mod Places
pub mod ReadLines
pub mod ReadWords
pub mod ReadsBack
pub mod Spelling
