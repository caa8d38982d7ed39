use Rattle.std.specs.Prelude.{◌≡◌, ℕ, ◌+◌, ◌-◌, ◌*◌, ◌/◌, ◌%◌, ◌^◌, ◌<◌, ◌≤◌, Bool, true, false, cond, ◌≢◌, List, Some, Option, slice_index, slice_index_or, refl}
use Rattle.std.proofs.Common.{ap, ◌∙◌, subst, inl, inr}
use Rattle.std.proofs.Math.Path.{sym}
use native.Mathlib.Omega.{arith}
use Rattle.std.proofs.lemmas.Bool.{cases_eq, cases_lt}
use Rattle.mapping.specs.Told.{none_some, some_is}
use Rattle.mapping.specs.declared.leaf.Leaf.{Leaf}
use Rattle.mapping.specs.Leaves.{Lawful, Falling, Filled}
use Rattle.mapping.specs.Sv39Format.{lower_word, upper_word, held, sv39_leaf, walk, sv39_at, sv39_sizes}
use Rattle.mapping.specs.Sv39Words.{Sound, On, Moved, Topped, Lowered, step, any_some, any_none, word_frame, lower_zero, upper_zero, upper_held, upper_kinds, leaf_not, leaf_is, leaf_of, at_in, at_object, at_page, at_small, at_big}

pub sv39_falling : Falling sv39_sizes
sv39_falling =
    record { unit = record { place = 1; there = omega arith; is = refl }; falls = fall; top = high }
  where
    fall : (i j : ℕ) → i < j → j < 2 → slice_index sv39_sizes j < slice_index sv39_sizes i
    fall i j a b = grind arith

    high : (i : ℕ) → slice_index sv39_sizes i ≤ 9
    high i = grind arith

module _ (xs : List ℕ) (sound : Sound (λ i. slice_index xs i)) where
  pub big_frame : (n : ℕ) → n < 8 → slice_index xs n % 4 ≡ 3 → (slice_index xs n / 1024 % 512 ≡ 0) × (held (λ i. slice_index xs i) n ≡ false)
  big_frame n h e =
      elim (upper_kinds n (slice_index xs n) _ (sound.top n h)) [
        | inl k ↦ let z = k.1 in absurd (omega arith)
        | inr k ↦ elim k [
          | inl m ↦ let z = m.1 in absurd (omega arith)
          | inr m ↦
              let f : slice_index_or xs n 0 / 1024 ≡ slice_index xs n / 524288 * 512 = ap (λ x. x / 1024) m.1 ∙ word_frame _ _ (omega arith) in
              (omega arith, m.0)
        ]
      ]

  big_lawful : (o p : ℕ) → o < 4 → p < 1024 → slice_index xs (o * 2 + p / 512) % 4 ≡ 3 → Lawful sv39_sizes (sv39_at xs) o p (leaf_of (p / 512 * 512) 9 (slice_index xs (o * 2 + p / 512)))
  big_lawful o p a b e =
      let f : slice_index_or xs (o * 2 + p / 512) 0 / 1024 % 512 ≡ 0 = (big_frame (o * 2 + p / 512) (omega arith) e).0 in
      let s : slice_index_or xs (o * 2 + p / 512) 0 < 2 ^ 21 = sound.small (o * 2 + p / 512) in
      record {
        from = omega arith;
        below = omega arith;
        aligned = omega arith;
        straight = f;
        sized = record { place = 0; there = omega arith; is = refl };
        object = a;
        within = omega arith;
        bounded = omega arith;
        same = λ q i j.
            let d : q / 512 ≡ p / 512 = omega arith in
            at_big xs sound o q a (omega arith) (subst (λ x. slice_index xs (o * 2 + x) % 4 ≡ 3) (sym d) e)
            ∙ ap (λ x. Some (leaf_of (x * 512) 9 (slice_index xs (o * 2 + x)))) d;
      }

  small_lawful : (o p : ℕ) → o < 4 → p < 1024 → (slice_index xs (o * 2 + p / 512) % 4 ≢ 3) → slice_index xs (8 + o * 1024 + p) % 4 ≡ 3 → Lawful sv39_sizes (sv39_at xs) o p (leaf_of p 0 (slice_index xs (8 + o * 1024 + p)))
  small_lawful o p a b n e =
      let s : slice_index_or xs (8 + o * 1024 + p) 0 < 2 ^ 21 = sound.small (8 + o * 1024 + p) in
      record {
        from = omega arith;
        below = omega arith;
        aligned = omega arith;
        straight = omega arith;
        sized = record { place = 1; there = omega arith; is = refl };
        object = a;
        within = omega arith;
        bounded = omega arith;
        same = λ q i j.
            let d : q ≡ p = omega arith in
            ap (sv39_at xs o) d ∙ at_small xs sound o p a b n ∙ leaf_is p 0 _ e;
      }

  pub sv39_lawful : (o p : ℕ) (l : Leaf) → sv39_at xs o p ≡ Some l → Lawful sv39_sizes (sv39_at xs) o p l
  sv39_lawful o p l h =
      elim (cases_lt o 4) [
        | inr g ↦ absurd (none_some l _ (at_object xs o p g) h)
        | inl a ↦ elim (cases_lt p 1024) [
          | inr g ↦ absurd (none_some l _ (at_page xs o p g) h)
          | inl b ↦ elim (cases_eq (slice_index xs (o * 2 + p / 512) % 4) 3) [
            | inl e ↦ subst (Lawful sv39_sizes (sv39_at xs) o p) (some_is _ _ (sym (at_big xs sound o p a b e) ∙ h)) (big_lawful o p a b e)
            | inr n ↦ elim (cases_eq (slice_index xs (8 + o * 1024 + p) % 4) 3) [
              | inl e ↦ subst (Lawful sv39_sizes (sv39_at xs) o p) (some_is _ _ (sym (at_small xs sound o p a b n ∙ leaf_is p 0 _ e) ∙ h)) (small_lawful o p a b n e)
              | inr m ↦ absurd (none_some l _ (at_small xs sound o p a b n ∙ leaf_not p 0 _ m) h)
            ]
          ]
        ]
      ]

module _ (xs ys : List ℕ) (n : ℕ) (mv : Moved (λ i. slice_index xs i) (λ i. slice_index ys i) n) where
  far : (c p : ℕ) → (c < 4 → p < 1024 → c * 2 + p / 512 ≢ n) → sv39_at ys c p ≡ sv39_at xs c p
  far c p ne =
      elim (cases_lt c 4) [
        | inr g ↦ at_object ys c p g ∙ sym (at_object xs c p g)
        | inl a ↦ elim (cases_lt p 1024) [
          | inr g ↦ at_page ys c p g ∙ sym (at_page xs c p g)
          | inl b ↦
              at_in ys c p a b
              ∙ ap (λ x. walk x (slice_index ys (8 + c * 1024 + p)) p) (mv.tops (c * 2 + p / 512) (omega arith) (ne a b))
              ∙ ap (λ x. walk (slice_index xs (c * 2 + p / 512)) x p) (mv.lows (8 + c * 1024 + p) (omega arith) (λ i. let u = i.from in let v = i.below in ne a b (omega arith)))
              ∙ sym (at_in xs c p a b)
        ]
      ]

  pub big_filled : (o : ℕ) (l : Leaf) (x : Option Leaf) → o < 4 → l.order ≡ 9 → l.first.0 % 512 ≡ 0 → l.first.0 + 512 ≤ 1024 → n ≡ o * 2 + l.first.0 / 512
      → ((p : ℕ) → l.first.0 ≤ p → p < l.first.0 + 512 → sv39_at ys o p ≡ x) → Filled (sv39_at xs) (sv39_at ys) o l x
  big_filled o l x a k s w e each =
      let z : 2 ^ l.order ≡ 512 = ap (λ y. 2 ^ y) k in
      record {
        inside = λ p i j. each p i (omega arith);
        outside = record {
          lower = λ p h. far o p (λ a b i. omega arith);
          upper = λ p h. far o p (λ a b i. omega arith);
          apart = λ c p ne. far c p (λ a b i. ne (omega arith));
        };
      }

  pub small_filled : (o : ℕ) (l : Leaf) (x : Option Leaf) → Sound (λ i. slice_index xs i) → Sound (λ i. slice_index ys i) → o < 4 → l.order ≡ 0 → l.first.0 < 1024 → n ≡ o * 2 + l.first.0 / 512
      → (slice_index xs n % 4 ≢ 3) → (slice_index ys n % 4 ≢ 3)
      → ((p : ℕ) → p < 1024 → (p ≢ l.first.0) → slice_index ys (8 + o * 1024 + p) ≡ slice_index xs (8 + o * 1024 + p))
      → sv39_leaf l.first.0 0 (slice_index ys (8 + o * 1024 + l.first.0)) ≡ x → Filled (sv39_at xs) (sv39_at ys) o l x
  small_filled o l x sx sy a k b e nx ny keep here =
      let z : 2 ^ l.order ≡ 1 = ap (λ y. 2 ^ y) k in
      record {
        inside = λ p i j.
            let d : p ≡ l.first.0 = omega arith in
            ap (sv39_at ys o) d ∙ at_small ys sy o l.first.0 a b (subst (λ m. slice_index ys m % 4 ≢ 3) e ny) ∙ here;
        outside = record {
          lower = λ p h. near p (omega arith) (λ i. omega arith);
          upper = λ p h. elim (cases_lt p 1024) [ inl g ↦ near p g (λ i. omega arith) | inr g ↦ at_page ys o p g ∙ sym (at_page xs o p g) ];
          apart = λ c p ne. far c p (λ g h i. ne (omega arith));
        };
      }
    where
      near : (p : ℕ) → p < 1024 → (p ≢ l.first.0) → sv39_at ys o p ≡ sv39_at xs o p
      near p g ne =
          elim (cases_eq (o * 2 + p / 512) n) [
            | inr f ↦ far o p (λ a b i. f i)
            | inl i ↦
                at_small ys sy o p a g (subst (λ m. slice_index ys m % 4 ≢ 3) (sym i) ny)
                ∙ ap (sv39_leaf p 0) (keep p g ne)
                ∙ sym (at_small xs sx o p a g (subst (λ m. slice_index xs m % 4 ≢ 3) (sym i) nx))
          ]

module _ (xs ys : List ℕ) (n v : ℕ) (m : n < 8) (w : Topped xs ys n v) where
  pub top_moved : Moved (λ i. slice_index xs i) (λ i. slice_index ys i) n
  top_moved = record { tops = λ k h ne. w.others k ne (λ o. let a = o.from in omega arith); lows = λ i h off. w.others i (λ e. omega arith) off }

  none_held : held (λ i. slice_index ys i) n ≡ false
  unfolding held
  none_held = any_none _ 512 w.inside

  pub top_sound : Sound (λ i. slice_index xs i) → v < 2 ^ 21 → v ≡ upper_word n v false → Sound (λ i. slice_index ys i)
  top_sound sound f u =
      step (λ i. slice_index xs i) (λ i. slice_index ys i) n sound top_moved
      (λ i o. let a = o.from in let b = o.below in
      let e : 8 + n * 512 + (i - (8 + n * 512)) ≡ i = omega arith in
      let z : slice_index_or ys i 0 ≡ 0 = subst (λ j. slice_index ys j ≡ 0) e (w.inside (i - (8 + n * 512)) (omega arith)) in
      (omega arith, subst (λ x. x ≡ lower_word x) (sym z) lower_zero))
      (subst (λ x. x < 2 ^ 21) (sym w.here) f)
      (w.here ∙ u ∙ ap (λ x. upper_word n x false) (sym w.here) ∙ ap (upper_word n (slice_index ys n)) (sym none_held))

-- an entry of a table is set, and then its top entry
module _ (xs ys : List ℕ) (n i v w : ℕ) (m : n < 8) (on : On n i) (sound : Sound (λ i. slice_index xs i))
    (here : slice_index_or ys i 0 ≡ v) (top : slice_index_or ys n 0 ≡ w) (others : (j : ℕ) → (j ≢ i) → (j ≢ n) → slice_index ys j ≡ slice_index xs j) where
  pub low_moved : Moved (λ i. slice_index xs i) (λ i. slice_index ys i) n
  low_moved = record { tops = λ k h ne. others k (λ e. let a = on.from in omega arith) ne; lows = λ j h off. others j (λ e. off (subst (On n) (sym e) on)) (λ e. omega arith) }

  pub low_sound : v < 2 ^ 21 → v ≡ lower_word v → w < 2 ^ 21 → w ≡ upper_word n w (held (λ i. slice_index ys i) n) → Sound (λ i. slice_index ys i)
  low_sound f g h t =
      step (λ i. slice_index xs i) (λ i. slice_index ys i) n sound low_moved
      (λ j o. elim (cases_eq j i) [
        | inl e ↦ let z : slice_index_or ys j 0 ≡ v = ap (λ x. slice_index ys x) e ∙ here in (subst (λ x. x < 2 ^ 21) (sym z) f, subst (λ x. x ≡ lower_word x) (sym z) g)
        | inr e ↦ let a = o.from in let z : slice_index_or ys j 0 ≡ slice_index_or xs j 0 = others j e (λ q. omega arith) in (subst (λ x. x < 2 ^ 21) (sym z) (sound.small j), subst (λ x. x ≡ lower_word x) (sym z) (sound.low j (omega arith)))
      ])
      (subst (λ x. x < 2 ^ 21) (sym top) h)
      (top ∙ t ∙ ap (λ x. upper_word n x (held (λ i. slice_index ys i) n)) (sym top))

  pub low_held : (v ≢ 0) → held (λ i. slice_index ys i) n ≡ true
  unfolding held
  low_held ne =
      let a = on.from in let b = on.below in
      let e : 8 + n * 512 + (i - (8 + n * 512)) ≡ i = omega arith in
      any_some _ 512 (i - (8 + n * 512)) (omega arith) (λ z. ne (sym here ∙ sym (ap (λ j. slice_index ys j) e) ∙ z))

-- the same of a step that points to the table if it holds a leaf
module _ (xs ys : List ℕ) (n i v : ℕ) (m : n < 8) (on : On n i) (w : Lowered xs ys n i v) where
  pub lowered_moved : Moved (λ i. slice_index xs i) (λ i. slice_index ys i) n
  lowered_moved = record { tops = λ k h ne. w.others k (λ e. let a = on.from in omega arith) ne; lows = λ j h off. w.others j (λ e. off (subst (On n) (sym e) on)) (λ e. omega arith) }

  kinds : (e : ℕ) (h : Bool) → e ≡ cond h (n * 1024 + 1) 0 → (e < 2 ^ 21) × (e ≡ upper_word n e h) × (e % 4 ≢ 3)
  kinds e true is = (omega arith, is ∙ sym (upper_held n e), λ h. omega arith)
  kinds e false is = (omega arith, is ∙ upper_zero n ∙ ap (λ x. upper_word n x false) (sym is), λ h. omega arith)

  pub lowered_free : slice_index ys n % 4 ≢ 3
  lowered_free = (kinds _ _ w.top).2

  pub lowered_sound : Sound (λ i. slice_index xs i) → v < 2 ^ 21 → v ≡ lower_word v → Sound (λ i. slice_index ys i)
  lowered_sound sound f g =
      let k = kinds (slice_index ys n) (held (λ i. slice_index ys i) n) w.top in
      low_sound xs ys n i v (slice_index ys n) m on sound w.here refl w.others f g k.0 k.1
