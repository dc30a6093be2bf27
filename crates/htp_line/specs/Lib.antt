pub mod Lines
pub mod Splitting
pub mod Reading
pub mod Answering
