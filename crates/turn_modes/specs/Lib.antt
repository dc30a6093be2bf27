pub mod Positions
pub mod Schedules
pub mod Records
pub mod Rows
pub mod ModeTexts
pub mod Telling
pub mod OneTurn
pub mod HandingIn
