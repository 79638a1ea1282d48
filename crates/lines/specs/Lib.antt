pub mod Buffers
pub mod Digits
pub mod Entries
pub mod Pages
pub mod Reading
pub mod Refusals
