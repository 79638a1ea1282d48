pub mod Found
pub mod Entered
pub mod Fits
pub mod Rules
