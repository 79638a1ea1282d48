pub mod Split
pub mod Noted
pub mod Laid
