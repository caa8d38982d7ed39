pub mod Blocks
pub mod Bit
