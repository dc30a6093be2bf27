pub mod Talk
pub mod Supply
pub mod Usage
pub mod Sessions
pub mod Endings
pub mod Calls
pub mod Laws
