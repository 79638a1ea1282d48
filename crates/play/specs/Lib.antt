pub mod Verdicts
pub mod Runs
