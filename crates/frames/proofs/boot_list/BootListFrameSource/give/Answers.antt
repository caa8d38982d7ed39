use Rattle.std.proofs.Common.{◌≡◌, ℕ, ◌+◌, ◌/◌, ◌^◌, List, ◌++◌, length, take, drop, sym, refl, ap, ◌∙◌, subst, arith}
use Rattle.std.proofs.lemmas.Result.{err_from_is_err_and}
use Rattle.std.proofs.lemmas.Bool.{lt-ltb}
use Rattle.blocks.specs.Bit.{bit}
use Rattle.blocks.specs.declared.aligned.AlignedBlock.{AlignedBlock}
use Rattle.frames.specs.Source.{Joined}
use Rattle.frames.specs.Listed.{listed, Distinct, AllBelow, Appended}
use Rattle.frames.specs.Lists.{added_room, added_row, added_distinct, added_below}
use Rattle.frames.specs.Tally.{tally_joined}
use Rattle.std.specs.Vec.{with_items}
use Rattle.std.proofs.Math.Seq.{take-append_seam}
use Rattle.frames.proofs.boot_list.BootListFrameSource.give.Goals as goal
use Rattle.frames.proofs.boot_list.BootListFrameSource.give.Goals.{After-count}

pub append-requires : goal.append-requires
append-requires c =
    let s = c.args.self.now in
    let b = c.args.block.block in
    let w = c.in_ok-admits.ensures in
    let t = added_room (bit s.free) s.filled b.first (2 ^ b.order) s.frames.number s.counted w.0 w.1 in
    (omega (arith, t, s.room), omega (arith, s.fits, s.frames.small))

-- the frames of the block join the row of bits
joined : (c : goal.After-count) → Joined (bit c.args.self.now.free) (bit c.fill.new.words) c.args.block.block.first (c.args.block.block.first + 2 ^ c.args.block.block.order)
joined c =
    let s = c.args.self.now in
    let n : c.numbers.result.first ≡ c.args.block.block.first = ap (λ (b : AlignedBlock). b.first) c.numbers.ensures in
    let p : 2 ^ c.numbers.result.order ≡ 2 ^ c.args.block.block.order = ap (λ (b : AlignedBlock). 2 ^ b.order) c.numbers.ensures in
    let w = c.in_ok-admits.ensures in
    record {
      was = w.1;
      is = λ f u v. c.fill.ensures.here f (omega arith) (omega arith) ∙ lt-ltb (f / 64) (length s.free) (omega (arith, s.frames.small, w.0));
      below = λ f u. c.fill.ensures.below f (omega arith);
      above = λ f u. c.fill.ensures.above f (omega arith);
    }

-- what a vector holds once its slice is back
vec_back : (ys items : List ℕ) (len : ℕ) → length ys ≡ len → take len (ys ++ drop (length ys) items) ≡ ys
vec_back ys items len e = ap (λ (n : ℕ). take n (ys ++ drop (length ys) items)) (sym e) ∙ take-append_seam ys (drop (length ys) items)

-- the places afterwards
abbrev after : goal.After-count → List ℕ
after c = (with_items c.args.self.now.places c.append.new.places).items

written : (c : goal.After-count) → Appended c.args.self.now.places.items (after c) c.args.self.now.filled c.args.block.block.first (2 ^ c.args.block.block.order)
written c =
    let s = c.args.self.now in
    let b = c.args.block.block in
    let v = c.deref_mut.ensures.value in
    let n = ap (length {A = ℕ}) v in
    let z = vec_back c.append.new.places s.places.items s.places.len (omega (arith, c.append.auto.places, n, s.places.ok.0)) in
    subst (λ (l : List ℕ). Appended s.places.items l s.filled b.first (2 ^ b.order)) (sym z)
    (subst (λ (l : List ℕ). Appended l c.append.new.places s.filled b.first (2 ^ b.order)) v c.append.ensures)

pub invariant_of-self : goal.invariant_of-self
invariant_of-self c =
    let s = c.args.self.now in
    let b = c.args.block.block in
    let xs = s.places.items in
    let ys = after c in
    let j = joined c in
    let w = written c in
    let z = c.count.ensures in
    let r = c.in_ok-admits.ensures.0 in
    let m = added_room (bit s.free) s.filled b.first (2 ^ b.order) s.frames.number s.counted r j.was in
    let t = tally_joined (bit s.free) (bit c.fill.new.words) b.first (2 ^ b.order) s.frames.number j r in
    let n = ap (λ (x : ℕ). s.filled + x) (sym z) in record {
      room = s.room;
      fits = omega (arith, m, z);
      below = subst (λ (k : ℕ). AllBelow ys k s.frames.number) n (added_below xs ys s.filled b.first (2 ^ b.order) s.frames.number w s.below r);
      distinct = subst (λ (k : ℕ). Distinct ys k) n (added_distinct xs ys s.filled b.first (2 ^ b.order) w s.distinct (λ f u v. sym (s.row f) ∙ j.was f u v));
      row = subst (λ (k : ℕ). (f : ℕ) → bit c.fill.new.words f ≡ listed ys k f) n
          (added_row xs ys (bit s.free) (bit c.fill.new.words) s.filled b.first (2 ^ b.order) w s.row j.is j.below j.above);
      counted = omega (arith, t, s.counted, z);
    }

pub returns-in_err-admits-clause-gives : goal.returns-in_err-admits-clause-gives
returns-in_err-admits-clause-gives c =
    let p = err_from_is_err_and c.from_residual.result c.from_residual.ensures.1 in
    let s = c.args.self.now in
    let h = c.in_err-admits.ensures s.filled in
    rw (p.1, p.2)
    (record {
      same = refl;
      past = h.past;
      within = h.within;
      free = λ e. let m = h.free e in record { at = m.at; from = m.from; before = m.before; holds = sym (s.row m.at) ∙ m.holds };
    })
