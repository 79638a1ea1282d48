pub mod Lines
pub mod Splits
pub mod Refusals
pub mod Laying
pub mod Files
