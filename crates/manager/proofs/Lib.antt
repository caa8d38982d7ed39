pub mod Stored
pub mod Filled
