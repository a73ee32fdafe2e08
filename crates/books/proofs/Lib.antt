pub mod Rows
pub mod Roads
pub mod Steps
pub mod Changes
pub mod Kth
pub mod Reading
pub mod Forms
pub mod Bound
