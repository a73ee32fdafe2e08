pub mod Octets
pub mod Fields
pub mod Steps
pub mod Answers
pub mod Written
pub mod Same
pub mod Octetwise
pub mod Reversed
