pub mod Joins
pub mod Tagged
pub mod Kitted
