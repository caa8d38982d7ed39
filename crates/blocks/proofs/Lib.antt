pub mod Digits
pub mod Parts
pub mod Runs
pub mod Spans
