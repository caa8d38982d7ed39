use Rattle.std.proofs.Common.{arith}
use Rattle.mapping.proofs.Sv39Calls.{top_counts}
use Rattle.mapping.proofs.Sv39State.{counts_of}
use Rattle.mapping.proofs.sv39.Levels.set_upper.Goals as goal

pub invariant_of-self : goal.invariant_of-self
invariant_of-self c = let a = c.requires.object in let b = c.requires.number in record {
  long = c.empty_lower.new.self.long;
  counted = (top_counts _ _ c.upper-n.result c.args.entry (omega (arith, c.upper-n.ensures)) (counts_of c.empty_lower.new.self)).each;
}
