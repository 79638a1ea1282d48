pub mod Taking
pub mod Loading
pub mod Replying
