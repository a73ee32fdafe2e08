pub mod FromFn
pub mod Numbers
pub mod Sameness
