pub mod Listing
pub mod Understood
pub mod Room
