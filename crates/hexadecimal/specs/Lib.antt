pub mod Digits
pub mod Parsed
