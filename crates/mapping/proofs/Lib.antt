pub mod Clearing
pub mod AlphaCalls
pub mod Counts
pub mod Sv39Calls
pub mod Sv39Exact
pub mod AlphaState
pub mod Sv39State
pub mod Rewritten
