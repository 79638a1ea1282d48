pub mod Columns
pub mod Hexadecimal
pub mod Placing
pub mod Readings
pub mod RoundTrip
pub mod Writes
