pub mod Whole
pub mod Lists
