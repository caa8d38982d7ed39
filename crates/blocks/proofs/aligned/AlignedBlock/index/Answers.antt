use Rattle.std.proofs.Common.{arith}
use Rattle.std.proofs.lemmas.Nat.{pow_pos}
use Rattle.blocks.proofs.Spans.{split, below}
use Rattle.blocks.proofs.aligned.AlignedBlock.index.Goals as goal

pub returns : goal.returns
returns c = (
  split c.args.self.now.order c.args.self.now.first c.args.self.now.aligned,
  below c.args.self.now.order c.args.self.now.first c.args.self.now.small (omega (arith, pow_pos c.args.self.now.order)),
)
