pub mod Refusals
pub mod Rules
pub mod Answers
pub mod Replies
pub mod Writing
pub mod Sessions
