pub mod Fitting
pub mod Pushing
