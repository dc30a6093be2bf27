pub mod Matches
pub mod Openings
pub mod Dealt
pub mod MatchTable
pub mod MatchWords
pub mod MatchTexts
pub mod MatchRuns
