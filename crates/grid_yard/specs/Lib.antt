pub mod Refusals
pub mod Cells
pub mod Times
pub mod Faults
pub mod Meaning
