use Rattle.std.proofs.Common.{ℕ, Bool, sym}
use Rattle.blocks.specs.Bit.{bit}
use Rattle.frames.proofs.Steps.{merge_start, merge_again, merge_end, merge_last}
use Rattle.frames.proofs.marks.Marks.merge.Goals as goal
use Rattle.frames.proofs.marks.Marks.merge.Goals.{in-Some+then-not-has, in_default}

pub loop-twin-init : goal.loop-twin-init
loop-twin-init c = merge_start (bit c.args.self.now.row) c.args.from.order c.args.from.index

pub loop-twin-preserved : goal.loop-twin-preserved
loop-twin-preserved c = λ p q m s.
    let b = c.loop-twin.block in
    let t = c.in-Some.twin in
    let w = c.in-Some.whole in
    let h = c.in-Some.ensures in
    merge_again (bit c.loop-twin.self.row) (bit c.set.new.self.row) q b.order b.index t.order t.index w.order w.index
    h.0 h.1 h.2 h.3 h.4 w.small t.room (c.loop-twin.invariant p q m s) (sym c.if-not-has.ensures) c.set.ensures.here c.set.ensures.others

pub returns : goal.returns
returns c = λ p q m s.
    let b = c.loop-twin.block in
    let old : ℕ → Bool = bit c.loop-twin.self.row in
    let new : ℕ → Bool = bit c.set-2.new.self.row in
    let i = c.loop-twin.invariant p q m s in
    let here = c.set-2.ensures.here in
    let others = c.set-2.ensures.others in
    elim c.match-joined.branch [
      | in-Some+then-not-has w ↦
          let t = w.in-Some.twin in
          let h = w.in-Some.ensures in
          merge_end old new q b.order b.index t.order t.index b.small b.room h.0 h.1 h.2 t.room i (sym w.if-not-has.ensures) here others
      | in_default w ↦ merge_last old new q b.order b.index w.in_default.ensures b.room i here others
    ]
