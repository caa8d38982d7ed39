-- the page machine
pub mod Options
pub mod Sums
pub mod Stepping
pub mod Histories
pub mod Lawful
pub mod Telling
-- homes and leaves
pub mod Sizes
pub mod Multiples
pub mod Blocks
pub mod Canonical
pub mod OneHome
-- reservations, claims and placement
pub mod Tiling
pub mod Claiming
pub mod Keeping
pub mod Giving
pub mod Halves
pub mod Bringing
pub mod Releases
-- the machine that places stand for
pub mod Meanings
