use Rattle.std.proofs.Common.{◌∙◌, refl, arith}
use Rattle.std.proofs.lemmas.List.{length-set}
use Rattle.frames.specs.Lists.{appended_none, appended_more}
use Rattle.frames.proofs.boot_list.append.Goals as goal

pub loop-i-init : goal.loop-i-init
loop-i-init c = (appended_none _ _ _, refl)

pub loop-i-preserved : goal.loop-i-preserved
loop-i-preserved c =
    let i = c.loop-i.invariant in (
      appended_more c.args.places.now c.loop-i.places c.args.from c.first-first.result.0 c.loop-i.i
          (omega (arith, i.1, c.count-i-end.ensures, c.requires.0)) i.0,
      length-set _ _ _ ∙ i.1,
    )
