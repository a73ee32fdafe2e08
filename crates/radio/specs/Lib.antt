pub mod Keyed
pub mod Told
