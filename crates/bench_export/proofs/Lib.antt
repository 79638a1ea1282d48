pub mod Entered
pub mod Copies
