use Rattle.std.specs.Prelude.{◌≡◌, ℕ, ◌+◌, ◌*◌, ◌/◌, ◌%◌, ◌^◌, ◌<◌, ◌≤◌, Bool, true, false, cond, ◌≢◌, List, length, Some, None, ◌==◌, slice_index, slice_index_or}
use Rattle.std.proofs.Math.Path.{refl, ap, sym}
use Rattle.std.proofs.Common.{◌∙◌, subst}
use Rattle.std.proofs.Math.Logic.{inl, inr}
use native.Mathlib.Omega.{arith}
use Rattle.std.proofs.Math.Nat.{mod-lt, mul-mod_left}
use Rattle.std.proofs.lemmas.Nat.{pow_pos}
use Rattle.std.proofs.lemmas.Bool.{cases_eq, cases_lt, cond-true, cond-false, eq-eqb, ne_eqb}
use Rattle.mapping.specs.Told.{none_some, some_is, told_in, told_out}
use Rattle.mapping.specs.declared.leaf.Leaf.{Leaf}
use Rattle.mapping.specs.Leaves.{Lawful, OneOf, Falling, lay}
use Rattle.mapping.specs.AlphaFormat.{order_in, fault_in, alpha_word, frame_in, neighbour, alpha_leaf, alpha_at, alpha_of, alpha_entry, alpha_sizes, AlphaTable}
use Rattle.mapping.specs.AlphaWords.{Order, hinted, word_order, word_fault, word_first, word_some, fault_bit, neighbour_is, neighbour_order, neighbour_fault, neighbour_frame, neighbour_some}
use Rattle.mapping.specs.Aligned.{in_block, start}
use Rattle.mapping.specs.AlphaTables.{Sound}

pub by_order : (P : ℕ → Type 0) → P 0 → P 3 → P 6 → P 9 → (k : ℕ) → Order k → P k
by_order P a b c d k o =
    elim (cases_eq k 0) [
      | inl z ↦ subst P (sym z) a
      | inr x ↦ elim (cases_eq k 3) [
        | inl z ↦ subst P (sym z) b
        | inr y ↦ elim (cases_eq k 6) [
          | inl z ↦ subst P (sym z) c
          | inr w ↦ let z : 9 ≡ k = omega (arith, o.few, o.is) in subst P z d
        ]
      ]
    ]

pub fits_object : (k p : ℕ) → Order k → p < 1024 → p / 2 ^ k * 2 ^ k + 2 ^ k ≤ 1024
fits_object k p o = by_order (λ k. p < 1024 → p / 2 ^ k * 2 ^ k + 2 ^ k ≤ 1024) (λ h. omega arith) (λ h. omega arith) (λ h. omega arith) (λ h. omega arith) k o

pub fits_memory : (k e : ℕ) → Order k → e < 2 ^ 43 → e / 4294967296 / 2 ^ k * 2 ^ k + 2 ^ k ≤ 2048
fits_memory k e o = by_order (λ k. e < 2 ^ 43 → e / 4294967296 / 2 ^ k * 2 ^ k + 2 ^ k ≤ 2048) (λ h. omega arith) (λ h. omega arith) (λ h. omega arith) (λ h. omega arith) k o

pub common : (k o p q : ℕ) → Order k → q / 2 ^ k ≡ p / 2 ^ k → (o * 1024 + q) / 2 ^ k ≡ (o * 1024 + p) / 2 ^ k
common k o p q r = by_order (λ k. q / 2 ^ k ≡ p / 2 ^ k → (o * 1024 + q) / 2 ^ k ≡ (o * 1024 + p) / 2 ^ k) (λ h. omega arith) (λ h. omega arith) (λ h. omega arith) (λ h. omega arith) k r

pub same_rest : (k o p : ℕ) → Order k → (o * 1024 + p) % 2 ^ k ≡ p % 2 ^ k
same_rest k o p r = by_order (λ k. (o * 1024 + p) % 2 ^ k ≡ p % 2 ^ k) (omega arith) (omega arith) (omega arith) (omega arith) k r

pub at_in : (xs : List ℕ) (o p : ℕ) → o < 4 → p < 1024 → alpha_at xs o p ≡ alpha_leaf p (slice_index xs (o * 1024 + p))
unfolding alpha_at
at_in xs o p a b = told_in _ o p a b

pub at_out : (xs : List ℕ) (o p : ℕ) → ((o < 4) × (p < 1024) → ⊥) → alpha_at xs o p ≡ None
unfolding alpha_at
at_out xs o p out = told_out _ o p out

pub at_object : (xs : List ℕ) (o p : ℕ) → 4 ≤ o → alpha_at xs o p ≡ None
at_object xs o p a = at_out xs o p (λ h. let b = h.0 in omega arith)

pub at_page : (xs : List ℕ) (o p : ℕ) → 1024 ≤ p → alpha_at xs o p ≡ None
at_page xs o p a = at_out xs o p (λ h. let b = h.1 in omega arith)

abbrev pub leaf_at : ℕ → ℕ → Leaf
leaf_at p e = lay (p / 2 ^ order_in e * 2 ^ order_in e) (order_in e) (frame_in e) (fault_in e == 0)

pub leaf_none : (p e : ℕ) → e ≡ 0 → alpha_leaf p e ≡ None
unfolding alpha_leaf
leaf_none p e z = cond-true _ _ _ (eq-eqb e 0 z)

pub leaf_is : (p e : ℕ) → (e ≢ 0) → alpha_leaf p e ≡ Some (leaf_at p e)
unfolding alpha_leaf
leaf_is p e n = cond-false _ _ _ (ne_eqb e 0 n)

pub record Got (xs : List ℕ) (o p : ℕ) (l : Leaf) : Type 0 where
  pub object : o < 4
  pub page : p < 1024
  pub some : slice_index_or xs (o * 1024 + p) 0 ≡ 0 → ⊥
  pub is : leaf_at p (slice_index xs (o * 1024 + p)) ≡ l

pub got : (xs : List ℕ) (o p : ℕ) (l : Leaf) → alpha_at xs o p ≡ Some l → Got xs o p l
got xs o p l e =
    elim (cases_lt o 4) [
      | inr h ↦ absurd (none_some l _ (at_object xs o p h) e)
      | inl a ↦ elim (cases_lt p 1024) [
        | inr h ↦ absurd (none_some l _ (at_page xs o p h) e)
        | inl b ↦
            let f : alpha_leaf p (slice_index xs (o * 1024 + p)) ≡ Some l = sym (at_in xs o p a b) ∙ e in
            elim (cases_eq (slice_index xs (o * 1024 + p)) 0) [
              | inl z ↦ absurd (none_some l _ (leaf_none p _ z) f)
              | inr n ↦ record { object = a; page = b; some = n; is = some_is _ _ (sym (leaf_is p _ n) ∙ f) }
            ]
      ]
    ]

pub alpha_falling : Falling alpha_sizes
alpha_falling =
    record {
      unit = record { place = 3; there = omega arith; is = refl };
      falls = fall;
      top = high;
    }
  where
    fall : (i j : ℕ) → i < j → j < 4 → slice_index alpha_sizes j < slice_index alpha_sizes i
    fall i j a b = grind arith

    high : (i : ℕ) → slice_index alpha_sizes i ≤ 9
    high i = grind arith

pub one_of : (k : ℕ) → Order k → OneOf alpha_sizes k
one_of = by_order (OneOf alpha_sizes) (record { place = 3; there = omega arith; is = refl }) (record { place = 2; there = omega arith; is = refl }) (record { place = 1; there = omega arith; is = refl }) (record { place = 0; there = omega arith; is = refl })

module _ (xs : List ℕ) (sound : Sound (λ i. slice_index xs i)) where
  lawful_at : (o p : ℕ) → o < 4 → p < 1024 → (slice_index xs (o * 1024 + p) ≢ 0) → Lawful alpha_sizes (alpha_at xs) o p (leaf_at p (slice_index xs (o * 1024 + p)))
  unfolding frame_in
  lawful_at o p a b n =
      let e : ℕ = slice_index_or xs (o * 1024 + p) 0 in
      let k : ℕ = order_in e in
      let r : Order k = hinted e in
      let s : p / 2 ^ k * 2 ^ k + p % 2 ^ k ≡ p = lib.Pow.split p k in
      let m : p % 2 ^ k < 2 ^ k = mod-lt p (pow_pos k) in
      let w : p / 2 ^ k * 2 ^ k + 2 ^ k ≤ 1024 = fits_object k p r b in
      let al : p / 2 ^ k * 2 ^ k % 2 ^ k ≡ 0 = mul-mod_left (p / 2 ^ k) (2 ^ k) in
      record {
        from = omega arith;
        below = omega arith;
        aligned = al;
        straight = mul-mod_left _ (2 ^ k);
        sized = one_of k r;
        object = a;
        within = w;
        bounded = fits_memory k e r (sound.small (o * 1024 + p));
        same = λ q i j.
            let c : q / 2 ^ k ≡ p / 2 ^ k = in_block k (p / 2 ^ k * 2 ^ k) q al i j ∙ lib.Pow.shl-shr (p / 2 ^ k) k in
            let d : (o * 1024 + q) / 2 ^ k ≡ (o * 1024 + p) / 2 ^ k = common k o p q r c in
            let v : slice_index_or xs (o * 1024 + q) 0 ≡ neighbour e (o * 1024 + q) = sound.same (o * 1024 + p) (o * 1024 + q) d in
            let y : alpha_leaf q (neighbour e (o * 1024 + q)) ≡ Some (leaf_at p e) = again e p q (o * 1024 + q) n c in
            at_in xs o q a (omega arith) ∙ ap (alpha_leaf q) v ∙ y;
      }
    where
      again : (e p q j : ℕ) → (e ≢ 0) → q / 2 ^ order_in e ≡ p / 2 ^ order_in e → alpha_leaf q (neighbour e j) ≡ Some (leaf_at p e)
      again e p q j n c =
          leaf_is q (neighbour e j) (neighbour_some e j n)
          ∙ ap (λ k. Some (lay (q / 2 ^ k * 2 ^ k) (k) (frame_in (neighbour e j)) (fault_in (neighbour e j) == 0))) (neighbour_order e j)
          ∙ ap (λ f. Some (lay (q / 2 ^ order_in e * 2 ^ order_in e) (order_in e) (f) (fault_in (neighbour e j) == 0))) (neighbour_frame e j)
          ∙ ap (λ h. Some (lay (q / 2 ^ order_in e * 2 ^ order_in e) (order_in e) (frame_in e) (h == 0))) (neighbour_fault e j)
          ∙ ap (λ d. Some (lay (d * 2 ^ order_in e) (order_in e) (frame_in e) (fault_in e == 0))) c

  pub alpha_lawful : (o p : ℕ) (l : Leaf) → alpha_at xs o p ≡ Some l → Lawful alpha_sizes (alpha_at xs) o p l
  alpha_lawful o p l h =
      let g : Got xs o p l = got xs o p l h in
      subst (Lawful alpha_sizes (alpha_at xs) o p) g.is (lawful_at o p g.object g.page g.some)

  -- every entry is the one that the format gives for the leaves
  pub alpha_exact : (o p : ℕ) → o < 4 → p < 1024 → slice_index xs (o * 1024 + p) ≡ alpha_of p (alpha_at xs o p)
  unfolding alpha_word
  alpha_exact o p a b =
      let e : ℕ = slice_index_or xs (o * 1024 + p) 0 in
      elim (cases_eq e 0) [
        | inl z ↦ z ∙ sym (ap (alpha_of p) (at_in xs o p a b ∙ leaf_none p e z))
        | inr n ↦
            let v : e ≡ neighbour e (o * 1024 + p) = sound.same (o * 1024 + p) (o * 1024 + p) refl in
            let c : cond (fault_in e == 0) 0 4 ≡ 4 * fault_in e = bit (fault_in e) (fault_bit e) in
            v ∙ neighbour_is e (o * 1024 + p) n
            ∙ ap (λ x. alpha_word (frame_in e + x) (order_in e) (fault_in e)) (same_rest (order_in e) o p (hinted e))
            ∙ ap (λ x. (frame_in e + p % 2 ^ order_in e) * 4294967296 + 4353 + 32 * (order_in e / 3) + x) (sym c)
            ∙ sym (ap (alpha_of p) (at_in xs o p a b ∙ leaf_is p e n))
      ]
    where
      bit : (h : ℕ) → h < 2 → cond (h == 0) 0 4 ≡ 4 * h
      bit h l = elim (cases_eq h 0) [ inl z ↦ rw z | inr n ↦ let z : h ≡ 1 = omega arith in rw z ]

  pub alpha_entry_lem : (i : ℕ) → i < 4096 → slice_index xs i ≡ alpha_entry (alpha_at xs) i
  alpha_entry_lem i h =
      let e : i / 1024 * 1024 + i % 1024 ≡ i = omega arith in
      ap (λ j. slice_index xs j) (sym e) ∙ alpha_exact (i / 1024) (i % 1024) (omega arith) (omega arith)

  pub alpha_table : length xs ≡ 4096 → AlphaTable (alpha_at xs) xs
  alpha_table l = record { long = l; exact = alpha_entry_lem }

pub fault_small : (v : Bool) → cond v 0 1 < 2
fault_small true = omega arith
fault_small false = omega arith

fault_back : (v : Bool) → (cond v 0 1 == 0) ≡ v
fault_back true = refl
fault_back false = refl

-- an entry made from a leaf tells that leaf
pub read_back : (l : Leaf) (p j : ℕ) → Order l.order → l.first.0 % 2 ^ l.order ≡ 0 → l.frame.0 % 2 ^ l.order ≡ 0
    → l.first.0 ≤ p → p < l.first.0 + 2 ^ l.order
    → alpha_leaf p (alpha_word (l.frame.0 + j % 2 ^ l.order) l.order (cond l.writable 0 1)) ≡ Some l
read_back l p j r even straight from below =
    let k : ℕ = l.order in
    let h : ℕ = cond l.writable 0 1 in
    let bit : h < 2 = fault_small l.writable in
    let f : ℕ = l.frame.0 + j % 2 ^ k in
    let c : p / 2 ^ k * 2 ^ k ≡ l.first.0 = ap (λ z. z * 2 ^ k) (in_block k l.first.0 p even from below) ∙ start k l.first.0 even in
    leaf_is p (alpha_word f k h) (word_some f k h)
    ∙ ap (λ z. Some (lay (p / 2 ^ z * 2 ^ z) z (frame_in (alpha_word f k h)) (fault_in (alpha_word f k h) == 0))) (word_order f k h r bit)
    ∙ ap (λ z. Some (lay z k (frame_in (alpha_word f k h)) (fault_in (alpha_word f k h) == 0))) c
    ∙ ap (λ z. Some (lay l.first.0 k z (fault_in (alpha_word f k h) == 0))) (word_first l.frame.0 j k h r bit straight)
    ∙ ap (λ z. Some (lay l.first.0 k l.frame.0 (z == 0))) (word_fault f k h r bit)
    ∙ ap (λ z. Some (lay l.first.0 k l.frame.0 z)) (fault_back l.writable)

-- a size of Alpha's
pub order_of : (k : ℕ) → OneOf alpha_sizes k → Order k
order_of k s =
    let t = s.there in
    let e = s.is in
    elim (cases_eq s.place 0) [
      | inl z ↦ record { part = 3; few = omega arith; is = sym e ∙ ap (λ i. slice_index alpha_sizes i) z }
      | inr y ↦ elim (cases_eq s.place 1) [
        | inl z ↦ record { part = 2; few = omega arith; is = sym e ∙ ap (λ i. slice_index alpha_sizes i) z }
        | inr x ↦ elim (cases_eq s.place 2) [
          | inl z ↦ record { part = 1; few = omega arith; is = sym e ∙ ap (λ i. slice_index alpha_sizes i) z }
          | inr v ↦ let z : s.place ≡ 3 = omega arith in record { part = 0; few = omega arith; is = sym e ∙ ap (λ i. slice_index alpha_sizes i) z }
        ]
      ]
    ]
