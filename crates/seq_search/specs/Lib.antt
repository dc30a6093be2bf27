pub mod Steps
pub mod Choosing
pub mod Descending
pub mod Adding
pub mod Writing
pub mod IsSearched
pub mod Searching
