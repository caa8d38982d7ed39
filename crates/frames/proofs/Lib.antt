pub mod Maxes
pub mod Steps
pub mod Sets
pub mod Sources
