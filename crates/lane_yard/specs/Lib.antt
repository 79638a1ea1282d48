pub mod Refusals
pub mod Records
pub mod Faults
pub mod Meaning
pub mod Times
