pub mod WorkLeft
pub mod Runs
pub mod Works
pub mod Debts
