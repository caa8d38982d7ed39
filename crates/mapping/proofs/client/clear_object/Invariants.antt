use Rattle.std.proofs.Common.{◌≡◌, ℕ, ◌-◌, ◌<◌, ◌≤◌, None}
use Rattle.mapping.proofs.client.clear_object.Given as goal

abbrev pub invariant-loop-number : goal.invariant-loop-number
invariant-loop-number g l = record {
  within : l.number ≤ 1024;
  none : (p : ℕ) → p < l.number → g.H.MappingHardware.at l.hardware l.object p ≡ None;
  apart : (b p : ℕ) → (b ≡ l.object → ⊥) → g.H.MappingHardware.at l.hardware b p ≡ g.H.MappingHardware.at l.initial.hardware b p;
}

abbrev pub decreases-loop-number : goal.decreases-loop-number
decreases-loop-number g l = 1024 - l.number
