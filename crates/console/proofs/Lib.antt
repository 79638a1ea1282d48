pub mod Taken
pub mod Loaded
pub mod Replied
