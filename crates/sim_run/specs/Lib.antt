pub mod Plain
pub mod Schedules
pub mod Steps
pub mod BetweenSteps
