use Rattle.manager.proofs.given.+give_unused.Given as goal

abbrev pub decreases-give_unused : goal.decreases-give_unused
decreases-give_unused g l = l.frames.block.order
