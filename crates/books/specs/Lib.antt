pub mod Lists
pub mod Walks
pub mod Chains
pub mod Books
