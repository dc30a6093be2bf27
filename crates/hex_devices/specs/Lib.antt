pub mod Errors
pub mod Devices
pub mod Calls
pub mod Inputs
pub mod Handing
pub mod Statuses
