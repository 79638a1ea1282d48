pub mod Times
pub mod Rises
pub mod Halves
pub mod Found
pub mod Listed
pub mod Single
