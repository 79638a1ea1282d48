pub mod Answers
pub mod Questions
pub mod Replies
