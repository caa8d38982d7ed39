use Rattle.std.proofs.Common.{◌≡◌, ℕ, ◌+◌, ◌-◌, ◌%◌, ◌^◌, ◌<◌, ◌≤◌, true}
use Rattle.blocks.specs.Bit.{bit}
use Rattle.manager.proofs.presence.Presence.all.Given as goal

abbrev pub invariant-loop-at : goal.invariant-loop-at
invariant-loop-at l = record {
  from : l.from ≤ l.at;
  words : (l.at - l.from) % 64 ≡ 0;
  set : (j : ℕ) → l.from ≤ j → j < l.at → j < l.from + 2 ^ l.fn.block.pages.block.order → bit l.self.words j ≡ true;
}
