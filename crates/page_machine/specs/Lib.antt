-- the page machine: state, calls, refusals, steps, runs
pub mod Counting
pub mod Machine
pub mod Calls
pub mod Refusals
pub mod Steps
pub mod Runs
pub mod Histories
pub mod RunLaws
pub mod TellingLaws
pub mod WorkedRuns
pub mod WorkedRefusals
-- homes and leaves
pub mod Leaves
pub mod LeafLaws
pub mod ChangeLaws
pub mod WorkedLeaves
-- reservations, claims and placement
pub mod Pieces
pub mod PieceLaws
pub mod Reservations
pub mod Claims
pub mod ClaimLaws
pub mod Giving
pub mod Placement
pub mod Invariant
pub mod PlacementLaws
-- the machine that places stand for
pub mod Meaning
pub mod MeaningLaws
