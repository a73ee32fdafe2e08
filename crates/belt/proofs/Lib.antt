pub mod Entries
pub mod Rounds
pub mod Refused
pub mod Compressing
pub mod Hashing
