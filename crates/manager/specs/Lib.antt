pub mod Arguments
pub mod Present
pub mod Refusals
