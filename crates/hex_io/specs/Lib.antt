pub mod Told
pub mod Causes
pub mod Grew
pub mod Reported
pub mod Mem
pub mod Shelves
pub mod MemShelves
