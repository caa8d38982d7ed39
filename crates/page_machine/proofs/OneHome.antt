-- What a change of homes does to canonical leaves.
use Rattle.std.proofs.Common.{◌≡◌, ℕ, ◌+◌, ◌-◌, ◌*◌, ◌/◌, ◌%◌, ◌^◌, ◌<◌, ◌≤◌, false, List, Some, None, Option, sym, refl, ap, ◌∙◌, subst, inl, inr, arith, pow_pos}
use lib.Pow.{split, high}
use native.Mathlib.Nat.{mul-mod_left}
use Rattle.page_machine.proofs.Multiples.{coarse, add_multiple, sub_multiple}
use Rattle.std.proofs.lemmas.Bool.{cases_eq, cases_lt}
use Rattle.mapping.specs.declared.leaf.Leaf.{Leaf}
use Rattle.mapping.specs.Leaves.{lay, OneOf, Falling, Inside}
use Rattle.page_machine.specs.Leaves.{Home, home, Homes, Whole, Together, unmark, block_leaf, canonical}
use Rattle.page_machine.proofs.Sizes.{falls}
use Rattle.page_machine.specs.ChangeLaws.{AlikeBut, Outside, OthersKeep, part, LeafSplits, SplitAlone, SplitKeeps, OldInside, MarksRemoved, AtMostOnePage, BroughtIn, ChangedAlone}
use Rattle.page_machine.proofs.Blocks.{coarser, in_block, small, whole, whole_back, leaf_kept}
use Rattle.page_machine.proofs.Canonical.{single_whole, none_at, by_blocks, sized, same_leaf, none_greater, not_whole, canonical_from, exists, covers, within_block}
use Rattle.page_machine.proofs.Options.{none_some}

-- no whole block of a size holds p and a page outside the leaf of p
outside_none : (ks : List ℕ) → Falling ks → (h : Homes) (p q k : ℕ) (m : Leaf) → OneOf ks k → Together k p q → Whole h k (q / 2 ^ k) m → Outside q (canonical ks h p) → ⊥
outside_none ks s h p q k m i e w out = go (canonical ks h p) refl out
  where
    same : canonical ks h q ≡ canonical ks h p
    same = same_leaf ks (falls ks s) h q p k m i (sym e) w

    go : (x : Option Leaf) → canonical ks h p ≡ x → Outside q x → ⊥
    go None f o = none_some _ m (none_at ks h q k i (same ∙ f)) (whole_back h k (q / 2 ^ k) m w)
    go (Some l) f o = let t = covers ks s h q l (same ∙ f) in o t.from t.below

pub one_change : OthersKeep
one_change ks s h g p q but oh og = by_blocks ks h g q q (λ k i. elim (cases_eq (p / 2 ^ k) (q / 2 ^ k)) [
  | inl e ↦
      not_whole h k (q / 2 ^ k) (λ m w. outside_none ks s h p q k m i e w oh)
      ∙ sym (not_whole g k (q / 2 ^ k) (λ m w. outside_none ks s g p q k m i e w og))
  | inr e ↦ leaf_kept h g k (q / 2 ^ k) (λ r f. but r (λ x. e (sym (ap (λ n. n / 2 ^ k) x) ∙ f)))
])

-- where a page of a whole block lies
home_of : (h : Homes) (k p q : ℕ) (l : Leaf) → Whole h k (p / 2 ^ k) l → Together k p q → h q ≡ Some (home (l.frame.0 + q % 2 ^ k) l.writable)
home_of h k p q l w e = ap h (sym (in_block q k (p / 2 ^ k) (sym e))) ∙ w.each (q % 2 ^ k) (small q k)

some_home : (x y : Home) → Some x ≡ Some y → x ≡ y
some_home x y e = cc

-- two whole blocks before and after that share another page have p where it was
breaks : (h g : Homes) (p q j k : ℕ) (l m : Leaf) → AlikeBut h g p → (q ≡ p → ⊥) → Whole h j (p / 2 ^ j) l → Together j p q → Whole g k (p / 2 ^ k) m → Together k p q → g p ≡ h p
breaks h g p q j k l m but n v d w e =
    let a : h q ≡ Some (home (l.frame.0 + q % 2 ^ j) l.writable) = home_of h j p q l v d in
    let b : g q ≡ Some (home (m.frame.0 + q % 2 ^ k) m.writable) = home_of g k p q m w e in
    let c : h q ≡ g q = but q n in
    let z = some_home _ _ (sym a ∙ c ∙ b) in
    let f : l.frame.0 + q % 2 ^ j ≡ m.frame.0 + q % 2 ^ k = ap (λ (x : Home). x.frame) z in
    let r : l.writable ≡ m.writable = ap (λ (x : Home). x.stored) z in
    let x : p / 2 ^ j * 2 ^ j + q % 2 ^ j ≡ q = in_block q j (p / 2 ^ j) (sym d) in
    let y : p / 2 ^ k * 2 ^ k + q % 2 ^ k ≡ q = in_block q k (p / 2 ^ k) (sym e) in
    let u : p / 2 ^ j * 2 ^ j + p % 2 ^ j ≡ p = split p j in
    let z : p / 2 ^ k * 2 ^ k + p % 2 ^ k ≡ p = split p k in
    let t : m.frame.0 + p % 2 ^ k ≡ l.frame.0 + p % 2 ^ j = omega arith in
    home_of g k p p m w refl ∙ (λ i. Some (home (t i) (sym r i))) ∙ sym (home_of h j p p l v refl)

-- a part of a whole block is whole
part_whole : (h : Homes) (p q j k : ℕ) (l : Leaf) → j ≤ k → Whole h k (p / 2 ^ k) l → Together k p q → Whole h j (q / 2 ^ j) (part l j q)
part_whole h p q j k l s w e =
    let f : l.first.0 ≡ p / 2 ^ k * 2 ^ k = w.first in
    record {
      order = refl;
      first = refl;
      aligned = add_multiple l.frame.0 _ (2 ^ j) (coarse l.frame.0 j k s w.aligned)
          (sub_multiple _ l.first.0 (2 ^ j) (mul-mod_left (q / 2 ^ j) (2 ^ j)) (coarse l.first.0 j k s (rw f (mul-mod_left (p / 2 ^ k) (2 ^ k)))));
      each = λ i lt.
          let r : ℕ = q / 2 ^ j * 2 ^ j + i in
          let near : (n : ℕ) → n < 2 ^ j → Together k p (q / 2 ^ j * 2 ^ j + n)
          = λ n m. e ∙ coarser q (q / 2 ^ j * 2 ^ j + n) j k s (sym (high (q / 2 ^ j) j m)) in
          let a : p / 2 ^ k * 2 ^ k + r % 2 ^ k ≡ r = in_block r k (p / 2 ^ k) (sym (near i lt)) in
          let b : p / 2 ^ k * 2 ^ k + (q / 2 ^ j * 2 ^ j + 0) % 2 ^ k ≡ q / 2 ^ j * 2 ^ j + 0 = in_block _ k (p / 2 ^ k) (sym (near 0 (pow_pos j))) in
          let t : l.frame.0 + r % 2 ^ k ≡ l.frame.0 + (q / 2 ^ j * 2 ^ j - l.first.0) + i = omega arith in
          home_of h k p r l w (near i lt) ∙ (λ x. Some (home (t x) l.writable));
    }

pub carves : LeafSplits
carves ks s h g p l but odd now q j lo hi b =
    let i = sized ks h p l now in
    let w : Whole h l.order (p / 2 ^ l.order) l = i.1 in
    let e : Together l.order p q = within_block p q l.order l.first.0 w.first lo hi in
    let n : q ≡ p → ⊥ = λ x. b.apart (sym (ap (λ y. y / 2 ^ j) x)) in
    let low : j ≤ l.order = elim (cases_lt l.order j) [ inl x ↦ absurd (b.apart (coarser p q l.order j (omega arith) e)) | inr x ↦ x ] in
    let v : Whole h j (q / 2 ^ j) (part l j q) = part_whole h p q j l.order l low w e in
    let same : block_leaf h j (q / 2 ^ j) ≡ block_leaf g j (q / 2 ^ j)
    = leaf_kept h g j (q / 2 ^ j) (λ r f. but r (λ x. b.apart (sym (ap (λ y. y / 2 ^ j) x) ∙ f))) in
    canonical_from ks (falls ks s) g q (part l j q)
    (record {
      size = b.size;
      whole = whole g j (q / 2 ^ j) (part l j q) (sym same ∙ whole_back h j (q / 2 ^ j) (part l j q) v);
      greater = λ k m x y z.
          let t : Together k p q = b.greater k x y in
          odd (breaks h g p q l.order k l m but n w e (subst (λ (c : ℕ). Whole g k c m) (sym t) z) t);
    })

-- the other page of its pair
twin : (p : ℕ) → (q : ℕ) × (q ≡ p → ⊥) × Together 1 p q
twin p = elim (cases_eq (p % 2) 0) [
  | inl e ↦ (p + 1, (λ x. omega arith), omega arith)
  | inr e ↦ (p - 1, (λ x. omega arith), omega arith)
]

pub alone : SplitAlone
alone ks s h g p l x but odd now big here =
    let i = sized ks h p l now in
    let t = twin p in
    canonical_from ks (falls ks s) g p _
    (record {
      size = s.unit;
      whole = single_whole g p x here;
      greater = λ k m y z w. odd (breaks h g p t.0 l.order k l m but t.1 i.1 (coarser p t.0 1 l.order big t.2) w (coarser p t.0 1 k z t.2));
    })

-- the new leaf of p lies within the old one
new_within : (ks : List ℕ) → Falling ks → (h g : Homes) (p q : ℕ) (l : Leaf) → AlikeBut h g p → (g p ≡ h p → ⊥) → canonical ks h p ≡ Some l → 0 < l.order →
    Outside q (Some l) → (x : Option Home) → g p ≡ x → Outside q (canonical ks g p)
new_within ks s h g p q l but odd now big out None e = subst (λ (y : Option Leaf). Outside q y) (sym ((exists ks s g p).1 e)) tt
new_within ks s h g p q l but odd now big out (Some x) e =
    let t = covers ks s h p l now in
    subst (λ (y : Option Leaf). Outside q y) (sym (alone ks s h g p l x but odd now big e))
    (λ lo hi. out (omega (arith, t.from)) (omega (arith, t.below)))

pub split_keeps : SplitKeeps
split_keeps ks s h g p q l but odd now big out =
    one_change ks s h g p q but (subst (λ (y : Option Leaf). Outside q y) (sym now) out) (new_within ks s h g p q l but odd now big out (g p) refl)

unmark_some : (x : Option Home) → unmark x ≡ None → x ≡ None
unmark_some None e = refl
unmark_some (Some x) e = absurd (none_some _ _ e refl)

-- every old leaf lies inside the new leaf of its page
swallowed : (ks : List ℕ) → Falling ks → (h : Homes) (p : ℕ) (l : Leaf) → canonical ks h p ≡ Some l →
    (m : Leaf) × (canonical ks (λ q. unmark (h q)) p ≡ Some m) × Inside m l × (m.writable ≡ false)
swallowed ks s h p l now = go (canonical ks g p) refl
  where
    g : Homes
    g = λ q. unmark (h q)

    plain : Leaf
    plain = lay l.first.0 l.order l.frame.0 false

    old : OneOf ks l.order × Whole h l.order (p / 2 ^ l.order) l
    old = sized ks h p l now

    kept : Whole g l.order (p / 2 ^ l.order) plain
    kept = record { order = refl; first = old.1.first; aligned = old.1.aligned; each = λ j b. ap unmark (old.1.each j b) }

    go : (x : Option Leaf) → canonical ks g p ≡ x → (m : Leaf) × (canonical ks g p ≡ Some m) × Inside m l × (m.writable ≡ false)
    go None e = absurd (none_some _ l ((exists ks s h p).1 (unmark_some (h p) ((exists ks s g p).0 e))) now)
    go (Some m) e =
        let i = sized ks g p m e in
        let low : l.order ≤ m.order = elim (cases_lt m.order l.order) [ inl x ↦ absurd (none_greater ks (falls ks s) g p m e l.order plain old.0 x kept) | inr x ↦ x ] in
        let f : l.first.0 ≡ p / 2 ^ l.order * 2 ^ l.order = old.1.first in
        let d : m.first.0 ≡ p / 2 ^ m.order * 2 ^ m.order = i.1.first in
        let near : (n : ℕ) → n < 2 ^ l.order → Together m.order p (p / 2 ^ l.order * 2 ^ l.order + n)
        = λ n b. coarser p _ l.order m.order low (sym (high (p / 2 ^ l.order) l.order b)) in
        let last : 2 ^ l.order - 1 < 2 ^ l.order = omega (arith, pow_pos l.order) in
        let a = in_block (p / 2 ^ l.order * 2 ^ l.order + 0) m.order _ (sym (near 0 (pow_pos l.order))) in
        let b = in_block (p / 2 ^ l.order * 2 ^ l.order + (2 ^ l.order - 1)) m.order _ (sym (near (2 ^ l.order - 1) last)) in
        let c = small (p / 2 ^ l.order * 2 ^ l.order + (2 ^ l.order - 1)) m.order in
        let o = home_of g l.order p p plain kept refl in
        let u = home_of g m.order p p m i.1 refl in
        (m, e, record { from = omega arith; to = omega arith }, ap (λ (x : Home). x.stored) (some_home _ _ (sym u ∙ o)))

-- a block lies in the greater block around one of its pages
nested : (p q j k : ℕ) → j ≤ k → Together k p q → (p / 2 ^ k * 2 ^ k ≤ q / 2 ^ j * 2 ^ j) × (q / 2 ^ j * 2 ^ j + 2 ^ j ≤ p / 2 ^ k * 2 ^ k + 2 ^ k)
nested p q j k s e =
    let near : (n : ℕ) → n < 2 ^ j → Together k p (q / 2 ^ j * 2 ^ j + n) = λ n b. e ∙ coarser q _ j k s (sym (high (q / 2 ^ j) j b)) in
    let last : 2 ^ j - 1 < 2 ^ j = omega (arith, pow_pos j) in
    let a = in_block (q / 2 ^ j * 2 ^ j + 0) k _ (sym (near 0 (pow_pos j))) in
    let b = in_block (q / 2 ^ j * 2 ^ j + (2 ^ j - 1)) k _ (sym (near (2 ^ j - 1) last)) in
    let c = small (q / 2 ^ j * 2 ^ j + (2 ^ j - 1)) k in
    (omega arith, omega arith)

small_outside : (ks : List ℕ) → Falling ks → (h : Homes) (p q : ℕ) (x : Option Leaf) → canonical ks h p ≡ x → AtMostOnePage x → (q ≡ p → ⊥) → Outside q x
small_outside ks s h p q None e z n = tt
small_outside ks s h p q (Some l) e z n = λ lo hi.
    let t = covers ks s h p l e in
    let w : 2 ^ l.order ≡ 1 = ap (λ k. 2 ^ k) z in
    n (omega (arith, t.from, t.below))

-- a page of a leaf of more pages than one is neither absent nor alone
not_small : (ks : List ℕ) → Falling ks → (h : Homes) (p q : ℕ) (l : Leaf) → canonical ks h q ≡ Some l → 0 < l.order → Together l.order q p → AtMostOnePage (canonical ks h p) → ⊥
not_small ks s h p q l e big t z =
    let i = sized ks h q l e in
    let same : canonical ks h p ≡ Some l = sym (same_leaf ks (falls ks s) h q p l.order l i.0 t i.1) ∙ e in
    omega (arith, subst (λ (x : Option Leaf). AtMostOnePage x) same z)

pub puts_one : ChangedAlone
puts_one ks s h g p m but z now =
    let i = sized ks g p m now in
    let t = covers ks s g p m now in
    let f : m.first.0 ≡ p / 2 ^ m.order * 2 ^ m.order = i.1.first in
    record {
      new = t.block;
      old = λ q l lo hi e.
          let y : Together m.order p q = within_block p q m.order m.first.0 f lo hi in
          let v = sized ks h q l e in
          let d : l.first.0 ≡ q / 2 ^ l.order * 2 ^ l.order = v.1.first in
          elim (cases_lt m.order l.order) [
            | inl x ↦ absurd (not_small ks s h p q l e (omega arith) (coarser q p m.order l.order (omega arith) (sym y)) z)
            | inr x ↦ let w = nested p q l.order m.order x y in record { from = omega (arith, w.0); to = omega (arith, w.1) }
          ];
      rest = λ q out.
          sym (one_change ks s h g p q but
          (small_outside ks s h p q (canonical ks h p) refl z (λ x. out (omega (arith, t.from)) (omega (arith, t.below))))
          (subst (λ (x : Option Leaf). Outside q x) (sym now) out));
    }

pub brought_in_lem : BroughtIn
brought_in_lem ks s h g p l but away now =
    puts_one ks s h g p l but (subst (λ (x : Option Leaf). AtMostOnePage x) (sym ((exists ks s h p).1 away)) tt) now

some_leaf : (l m : Leaf) → Some l ≡ Some m → l ≡ m
some_leaf l m e = cc

pub marks_removed : MarksRemoved
marks_removed ks s h p m now = (
  (let t = old p (covers ks s g p m now).from (covers ks s g p m now).below in
      let w = swallowed ks s h p t.old t.was in
      ap (λ (x : Leaf). x.writable) (some_leaf _ _ (sym now ∙ w.1)) ∙ w.3),
  old,
)
  where
    g : Homes
    g = λ q. unmark (h q)

    at : (q : ℕ) → canonical ks g q ≡ Some m → (x : Option Leaf) → canonical ks h q ≡ x → OldInside ks h q m
    at q e None f = absurd (none_some _ m ((exists ks s g q).1 (ap unmark ((exists ks s h q).0 f))) e)
    at q e (Some l) f =
        let w = swallowed ks s h q l f in
        let same : w.0 ≡ m = some_leaf _ _ (sym w.1 ∙ e) in
        record { old = l; was = f; inside = subst (λ (x : Leaf). Inside x l) same w.2 }

    old : (q : ℕ) → m.first.0 ≤ q → q < m.first.0 + 2 ^ m.order → OldInside ks h q m
    old q lo hi = at q ((covers ks s g p m now).block q lo hi) (canonical ks h q) refl
