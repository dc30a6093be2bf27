pub mod Tables
pub mod Events
pub mod Plays
pub mod Seats
pub mod Visits
pub mod Ends
