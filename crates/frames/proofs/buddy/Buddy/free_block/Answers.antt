use Rattle.std.proofs.Common.{◌≡◌, true, ⊎_elim, arith}
use Rattle.std.proofs.lemmas.Bool.{cases_Bool}
use Rattle.blocks.specs.Bit.{bit}
use Rattle.frames.specs.declared.buddy.Buddy.{Buddy}
use Rattle.frames.specs.Maximal.{Marked}
use Rattle.frames.proofs.Sets.{marked_from, tile, untiled}
use Rattle.frames.proofs.buddy.Buddy.free_block.Goals as goal

marked : (s : Buddy) → Marked (bit s.marks.row) (bit s.free)
marked s = marked_from (bit s.marks.row) (bit s.free) s.whole s.alone s.all

pub returns-in_err-around : goal.returns-in_err-around
returns-in_err-around c =
    let s = c.args.self.now in
    let f = c.args.frame.0 in
    rw c.from_residual.ensures
    (⊎_elim
    (λ (t : bit s.free f ≡ true).
    let l = s.within f t in
    untiled (bit s.marks.row) (bit s.free) f (omega (arith, l, s.frames.small)) (marked s) (λ j h. c.in_err-around.ensures j h (omega (arith, l, s.frames.small))))
    (λ t. t)
    (cases_Bool (bit s.free f)))

pub returns : goal.returns
returns c =
    let s = c.args.self.now in
    let n = c.in_ok-around.field-0 in
    let x = c.in_ok-around.ensures in
    tile (bit s.marks.row) (bit s.free) n.order n.index c.args.frame.0 c.into.result.block.first c.into.result.block.order
    (marked s) n.small n.room x.0 x.1 c.into.ensures.0 c.into.ensures.1
