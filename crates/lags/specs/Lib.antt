pub mod Ways
pub mod Solved
pub mod Times
pub mod Progress
pub mod Traced
