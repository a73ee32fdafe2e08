pub mod Places
pub mod Layout
pub mod Lawful
pub mod Sealing
pub mod Faults
pub mod Opening
pub mod Exact
pub mod Cases
