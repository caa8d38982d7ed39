use Rattle.std.proofs.Common.{◌≡◌, ℕ, ◌+◌, ◌-◌, ◌^◌, ◌<◌, true, false, length, get_or, vec_items, vec_len, sym, refl, ap, ◌∙◌, subst, arith}
use Rattle.std.proofs.lemmas.List.{get_or_read}
use Rattle.blocks.specs.Bit.{bit}
use Rattle.frames.specs.declared.boot_list.BootList.{BootList}
use Rattle.frames.specs.Lists.{row_less, tally_more, last_joined, listed_at}
use Rattle.frames.proofs.boot_list.BootListFrameSource.take.Goals as goal

-- what the last filled place holds
last : (s : BootList) (x : ℕ) → (s.filled ≡ 0 → ⊥) → x ≡ get_or (vec_items s.places) (s.filled - 1) x
    → (x ≡ get_or (vec_items s.places) (s.filled - 1) 0) × (x < s.frames.number) × (bit s.free x ≡ true)
last s x z e =
    let n : vec_len s.places ≡ length (vec_items s.places) = s.places.ok.0 in
    let y = get_or_read (vec_items s.places) (s.filled - 1) x (omega (arith, n, s.room, s.fits)) e 0 in
    let h = s.below (s.filled - 1) (omega arith) in
    (y, omega (arith, y, h), s.row x ∙ listed_at (vec_items s.places) s.filled (s.filled - 1) x (omega arith) (sym y))

pub invariant_of-self : goal.invariant_of-self
invariant_of-self c =
    let s = c.args.self.now in
    let xs = vec_items s.places in
    let x : ℕ = c.index-frame.result.now in
    let l = last s x c.if-self-eq0.false c.index-frame.ensures in
    let b = bit s.free in
    let b' = bit c.set.new.words in
    let z : 0 < s.filled = omega (arith, c.if-self-eq0.false) in
    let t = tally_more b' b x s.frames.number l.1 c.set.ensures.here l.2 (λ f o. sym (c.set.ensures.others f o)) in record {
      room = s.room;
      fits = omega (arith, s.fits);
      below = λ i v. s.below i (omega arith);
      distinct = λ i v. s.distinct i (omega arith);
      row = row_less xs b b' s.filled z s.distinct s.row (subst (λ (y : ℕ). b' y ≡ false) l.0 c.set.ensures.here)
          (subst (λ (y : ℕ). (f : ℕ) → (f ≡ y → ⊥) → b' f ≡ b f) l.0 c.set.ensures.others);
      counted = omega (arith, t, s.counted);
    }

pub returns : goal.returns
returns c =
    let s = c.args.self.now in
    let l = last s c.index-frame.result.now c.if-self-eq0.false c.index-frame.ensures in
    let z : 0 < s.filled = omega (arith, c.if-self-eq0.false) in
    let k : c.args.order ≡ 0 = omega (arith, c.if-order-gt0.false) in
    let p : 2 ^ c.args.order ≡ 1 = ap (λ (x : ℕ). 2 ^ x) k in
    let b : c.from-block.result.block.first ≡ c.index-frame.result.now = omega (arith, c.from-block.ensures.0) in
    record {
      takes = record {
        small = omega (arith, k);
        order = c.from-block.ensures.1 ∙ sym k;
        total = refl;
        free = last_joined (vec_items s.places) s.filled c.from-block.result.block.first _ z s.distinct (b ∙ l.0) (ap (λ (x : ℕ). c.from-block.result.block.first + x) p);
        avail = omega (arith, p, z);
      };
      last = (k, omega (arith, z), b ∙ l.0);
      places = refl;
      kept = tt;
    }
