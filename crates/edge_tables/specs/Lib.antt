pub mod Covers
pub mod Entries
