-- The canonical leaf: it is that of the greatest whole block, and what follows.
use Rattle.std.proofs.Common.{◌≡◌, ℕ, ◌+◌, ◌-◌, ◌*◌, ◌/◌, ◌%◌, ◌^◌, ◌<◌, ◌≤◌, ◌⊎◌, List, [], ◌∷◌, Some, None, Option, sym, refl, ap, ◌∙◌, subst, ap₂, inl, inr, mul-div_cancel, arith, pow_pos}
use lib.Pow.{split, high}
use Rattle.mapping.specs.declared.leaf.Leaf.{Leaf}
use Rattle.mapping.specs.Leaves.{lay, OneOf}
use Rattle.page_machine.specs.Leaves.{Home, home, Homes, Whole, Together, Joined, block_leaf, or_else, canonical}
use Rattle.page_machine.specs.LeafLaws.{Greatest, CanonicalIsGreatest, LeafIfPresent, LeafTells, EqualLeaves, EqualLeavesOfAll}
use Rattle.page_machine.proofs.Sizes.{Falls, falls, one_here, one_there, one_cases}
use Rattle.page_machine.proofs.Blocks.{coarser, small, whole, whole_back, holed}
use Rattle.page_machine.proofs.Options.{none_some}

or_parts : {A : Type 0} (x y : Option A) (l : A) → or_else x y ≡ Some l → (x ≡ Some l) ⊎ ((x ≡ None) × (y ≡ Some l))
or_parts None y l e = inr (refl, e)
or_parts (Some x) y l e = inl e

or_none : {A : Type 0} (x y : Option A) → or_else x y ≡ None → (x ≡ None) × (y ≡ None)
or_none None y e = (refl, e)
or_none (Some x) y e = absurd (none_some (Some x) x e refl)

-- blocks alike, leaves alike
pub by_blocks : (ks : List ℕ) (g h : Homes) (p q : ℕ) → ((k : ℕ) → OneOf ks k → block_leaf g k (p / 2 ^ k) ≡ block_leaf h k (q / 2 ^ k)) → canonical ks g p ≡ canonical ks h q
unfolding canonical
by_blocks [] g h p q e = refl
by_blocks (k ∷ ks) g h p q e = ap₂ or_else (e k (one_here ks refl)) (by_blocks ks g h p q (λ j i. e j (one_there k i)))

-- a leaf is the block of a size around its page, whole
pub sized : (ks : List ℕ) (h : Homes) (p : ℕ) (l : Leaf) → canonical ks h p ≡ Some l → OneOf ks l.order × Whole h l.order (p / 2 ^ l.order) l
unfolding canonical
sized [] h p l e = absurd (none_some None l refl e)
sized (k ∷ ks) h p l e = elim (or_parts (block_leaf h k (p / 2 ^ k)) (canonical ks h p) l e) [
  | inl f ↦
      let w = whole h k (p / 2 ^ k) l f in
      (one_here ks w.order, subst (λ (j : ℕ). Whole h j (p / 2 ^ j) l) (sym w.order) w)
  | inr f ↦ let i = sized ks h p l f.1 in (one_there k i.0, i.1)
]

-- one whole block of a size holds both
pub same_leaf : (ks : List ℕ) → Falls ks → (h : Homes) (p q k : ℕ) (l : Leaf) → OneOf ks k → Together k p q → Whole h k (p / 2 ^ k) l → canonical ks h p ≡ canonical ks h q
unfolding canonical
same_leaf [] f h p q k l i e w = absurd (omega (arith, i.there))
same_leaf (j ∷ js) f h p q k l i e w = elim (one_cases i) [
  | inl x ↦
      let a : block_leaf h j (p / 2 ^ j) ≡ Some l = subst (λ (n : ℕ). block_leaf h n (p / 2 ^ n) ≡ Some l) x (whole_back h k (p / 2 ^ k) l w) in
      let b : block_leaf h j (q / 2 ^ j) ≡ Some l = ap (block_leaf h j) (sym (subst (λ (n : ℕ). Together n p q) x e)) ∙ a in
      ap (λ y. or_else y (canonical js h p)) a ∙ sym (ap (λ y. or_else y (canonical js h q)) b)
  | inr x ↦
      let s : k < j = f.0 k x in
      ap₂ or_else (ap (block_leaf h j) (coarser p q k j (omega arith) e)) (same_leaf js f.1 h p q k l x e w)
]

below_head : (j : ℕ) (js : List ℕ) → Falls (j ∷ js) → (k : ℕ) → OneOf (j ∷ js) k → k ≤ j
below_head j js f k i = elim (one_cases i) [ inl e ↦ omega arith | inr e ↦ let s : k < j = f.0 k e in omega arith ]

pub none_greater : (ks : List ℕ) → Falls ks → (h : Homes) (p : ℕ) (l : Leaf) → canonical ks h p ≡ Some l → (k : ℕ) (m : Leaf) → OneOf ks k → l.order < k → Whole h k (p / 2 ^ k) m → ⊥
unfolding canonical
none_greater [] f h p l e k m i s w = omega (arith, i.there)
none_greater (j ∷ js) f h p l e k m i s w = elim (or_parts (block_leaf h j (p / 2 ^ j)) (canonical js h p) l e) [
  | inl a ↦ omega (arith, (whole h j (p / 2 ^ j) l a).order, below_head j js f k i)
  | inr a ↦ elim (one_cases i) [
    | inl i ↦ none_some _ m a.0 (subst (λ (n : ℕ). block_leaf h n (p / 2 ^ n) ≡ Some m) i (whole_back h k (p / 2 ^ k) m w))
    | inr i ↦ none_greater js f.1 h p l a.1 k m i s w
  ]
]

pub not_whole : (h : Homes) (k i : ℕ) → ((m : Leaf) → Whole h k i m → ⊥) → block_leaf h k i ≡ None
not_whole h k i n = go (block_leaf h k i) refl
  where
    go : (x : Option Leaf) → block_leaf h k i ≡ x → block_leaf h k i ≡ None
    go None e = e
    go (Some l) e = absurd (n l (whole h k i l e))

pub canonical_from : (ks : List ℕ) → Falls ks → (h : Homes) (p : ℕ) (l : Leaf) → Greatest ks h p l → canonical ks h p ≡ Some l
unfolding canonical
canonical_from [] f h p l g = absurd (omega (arith, g.size.there))
canonical_from (j ∷ js) f h p l g = elim (one_cases g.size) [
  | inl i ↦ ap (λ x. or_else x (canonical js h p)) (subst (λ (n : ℕ). block_leaf h n (p / 2 ^ n) ≡ Some l) i (whole_back h l.order (p / 2 ^ l.order) l g.whole))
  | inr i ↦
      ap (λ x. or_else x (canonical js h p)) (not_whole h j (p / 2 ^ j) (λ m w. g.greater j m (one_here js refl) (f.0 l.order i) w))
      ∙ canonical_from js f.1 h p l (record { size = i; whole = g.whole; greater = λ k m x y w. g.greater k m (one_there j x) y w })
]

pub canonical_is : CanonicalIsGreatest
canonical_is ks s h p l = (
  (λ e. let i = sized ks h p l e in record { size = i.0; whole = i.1; greater = none_greater ks (falls ks s) h p l e }),
  canonical_from ks (falls ks s) h p l,
)

pub none_at : (ks : List ℕ) (h : Homes) (p k : ℕ) → OneOf ks k → canonical ks h p ≡ None → block_leaf h k (p / 2 ^ k) ≡ None
unfolding canonical
none_at [] h p k i e = absurd (omega (arith, i.there))
none_at (j ∷ js) h p k i e = elim (one_cases i) [
  | inl x ↦ subst (λ (n : ℕ). block_leaf h n (p / 2 ^ n) ≡ None) (sym x) (or_none (block_leaf h j (p / 2 ^ j)) (canonical js h p) e).0
  | inr x ↦ none_at js h p k x (or_none (block_leaf h j (p / 2 ^ j)) (canonical js h p) e).1
]

-- every present page is a whole block of order 0
pub single_whole : (h : Homes) (p : ℕ) (x : Home) → h p ≡ Some x → Whole h 0 (p / 2 ^ 0) (lay p 0 x.frame x.stored)
single_whole h p x f = record {
  order = refl;
  first = omega arith;
  aligned = omega arith;
  each = λ j s.
      let a : p / 2 ^ 0 * 2 ^ 0 + j ≡ p = omega arith in
      let b : x.frame ≡ x.frame + j = omega arith in
      ap h a ∙ f ∙ ap (λ (n : ℕ). Some (home n x.stored)) b;
}

single : (h : Homes) (p : ℕ) → block_leaf h 0 (p / 2 ^ 0) ≡ None → h p ≡ None
single h p e = go (h p) refl
  where
    go : (x : Option Home) → h p ≡ x → h p ≡ None
    go None f = f
    go (Some x) f = absurd (none_some _ _ e (whole_back h 0 (p / 2 ^ 0) (lay p 0 x.frame x.stored) (single_whole h p x f)))

absent_none : (ks : List ℕ) (h : Homes) (p : ℕ) → h p ≡ None → canonical ks h p ≡ None
unfolding canonical
absent_none [] h p e = refl
absent_none (k ∷ ks) h p e = ap (λ x. or_else x (canonical ks h p)) (holed h k (p / 2 ^ k) p refl e) ∙ absent_none ks h p e

pub exists : LeafIfPresent
exists ks s h p = ((λ e. single h p (none_at ks h p 0 s.unit e)), absent_none ks h p)

-- q lies in the block of p
pub within_block : (p q k f : ℕ) → f ≡ p / 2 ^ k * 2 ^ k → f ≤ q → q < f + 2 ^ k → Together k p q
within_block p q k f e lo hi =
    let a : p / 2 ^ k * 2 ^ k + (q - f) ≡ q = omega arith in
    sym (ap (λ n. n / 2 ^ k) (sym a) ∙ high (p / 2 ^ k) k (omega arith))

pub covers : LeafTells
covers ks s h p l e =
    let i = sized ks h p l e in
    let w : Whole h l.order (p / 2 ^ l.order) l = i.1 in
    let a : p / 2 ^ l.order * 2 ^ l.order + p % 2 ^ l.order ≡ p = split p l.order in
    let b : p % 2 ^ l.order < 2 ^ l.order = small p l.order in
    let f : l.first.0 ≡ p / 2 ^ l.order * 2 ^ l.order = w.first in
    let d : p % 2 ^ l.order ≡ p - l.first.0 = omega arith in
    record {
      from = omega arith;
      below = omega arith;
      lies = ap h (sym a) ∙ w.each (p % 2 ^ l.order) b ∙ ap (λ (n : ℕ). Some (home (l.frame.0 + n) l.writable)) d;
      block = λ q lo hi. sym (same_leaf ks (falls ks s) h p q l.order l i.0 (within_block p q l.order l.first.0 f lo hi) w) ∙ e;
    }

-- one leaf, one block
pub one_block : (h : Homes) (p q : ℕ) (l : Leaf) → Whole h l.order (p / 2 ^ l.order) l → Whole h l.order (q / 2 ^ l.order) l → Together l.order p q
one_block h p q l v w =
    sym (mul-div_cancel (p / 2 ^ l.order) (pow_pos l.order))
    ∙ ap (λ n. n / 2 ^ l.order) (sym v.first ∙ w.first)
    ∙ mul-div_cancel (q / 2 ^ l.order) (pow_pos l.order)

pub equal : EqualLeaves
equal ks s h p q hp hq = (to (canonical ks h p) refl, back)
  where
    to : (x : Option Leaf) → canonical ks h p ≡ x → canonical ks h p ≡ canonical ks h q → Joined ks h p q
    to None e f = absurd (hp ((exists ks s h p).0 e))
    to (Some l) e f =
        let i = sized ks h p l e in
        let j = sized ks h q l (sym f ∙ e) in
        record { order = l.order; size = i.0; together = one_block h p q l i.1 j.1; leaf = l; whole = i.1 }

    back : Joined ks h p q → canonical ks h p ≡ canonical ks h q
    back j = same_leaf ks (falls ks s) h p q j.order j.leaf j.size j.together j.whole

pub equal_of_all : EqualLeavesOfAll
equal_of_all ks s h d o p b q hp hq = (
  to (canonical ks (h o) p) refl,
  λ j. (equal ks s (h o) p q hp (λ e. hq (ap (λ c. h c q) (sym j.0) ∙ e))).1 j.1 ∙ ap (λ c. canonical ks (h c) q) j.0,
)
  where
    to : (x : Option Leaf) → canonical ks (h o) p ≡ x → canonical ks (h o) p ≡ canonical ks (h b) q → (o ≡ b) × Joined ks (h o) p q
    to None e f = absurd (hp ((exists ks s (h o) p).0 e))
    to (Some l) e f =
        let t = covers ks s (h o) p l e in
        let u = covers ks s (h b) q l (sym f ∙ e) in
        let v = covers ks s (h b) p l (u.block p t.from t.below) in
        let same : o ≡ b = (d o p b p _ _ t.lies v.lies refl).0 in
        (same, (equal ks s (h o) p q hp (λ e. hq (ap (λ c. h c q) (sym same) ∙ e))).0 (f ∙ ap (λ c. canonical ks (h c) q) (sym same)))
