pub mod Refusals
pub mod Book
pub mod Calls
pub mod Sound
pub mod Histories
pub mod Records
pub mod Tables
pub mod Sheets
