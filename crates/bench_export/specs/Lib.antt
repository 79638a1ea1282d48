pub mod Numbers
pub mod Rules
pub mod Entering
pub mod Codes
pub mod Judging
pub mod Copies
