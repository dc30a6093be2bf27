pub mod Deciding
pub mod Solved
pub mod Ledgers
pub mod Marks
pub mod PlainSearch
pub mod PlainAnswer
