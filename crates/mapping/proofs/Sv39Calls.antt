use Rattle.std.proofs.Common.{◌≡◌, ℕ, ◌+◌, ◌-◌, ◌*◌, ◌/◌, ◌%◌, ◌^◌, ◌<◌, ◌≤◌, Bool, false, cond, eqb, List, length, get_or, set, Some, None, sym, refl, ap, ◌∙◌, subst, inl, inr, arith, length-set}
use Rattle.std.proofs.lemmas.List.{get_or-set_same, get_or-set_other}
use Rattle.std.proofs.lemmas.Nat.{pow_pos}
use Rattle.std.proofs.lemmas.Bool.{cases_eq, cases_lt}
use Rattle.mapping.specs.Told.{none_some, some_is}
use Rattle.mapping.specs.declared.leaf.Leaf.{Leaf}
use Rattle.mapping.specs.Leaves.{Fit, Cleared, PutOk, Reaches, lay}
use Rattle.mapping.proofs.Rewritten.{Written}
use Rattle.mapping.proofs.Counts.{one, count_cong, count_none, count_small, count_has, count_zero, count_set, count_any}
use Rattle.mapping.specs.Sv39Format.{sv39_word, lower_word, upper_word, held, leaves_in, sv39_leaf, sv39_at, sv39_sizes}
use Rattle.mapping.specs.Reaching.{unhindered, reaches}
use Rattle.mapping.specs.Sv39Words.{Sound, On, Moved, Topped, Lowered, any_none, word_lower, word_upper, word_leaf, lower_zero, upper_zero, lower_kinds, leaf_not, leaf_is, leaf_of, at_object, at_page, at_small, at_big, bit_low, sized, leaf_word}
use Rattle.mapping.specs.Sv39Moves.{sv39_lawful, sv39_falling, big_filled, small_filled, top_moved, top_sound, lowered_moved, lowered_sound, lowered_free}

small_word : (f w : ℕ) → w < 2 → f < 2048 → sv39_word f w < 2 ^ 21
unfolding sv39_word
small_word f w h k = omega arith

-- the counts stay right: table n has its own, every other table is as it was
pub record Counts (cs : List ℕ) (t : ℕ → ℕ) : Type 0 where
  pub each : (n : ℕ) → n < 8 → get_or cs n 0 ≡ leaves_in t n

pub counted : (xs ys cs ds : List ℕ) (n : ℕ) → Moved (λ i. get_or xs i 0) (λ i. get_or ys i 0) n
    → Counts cs (λ i. get_or xs i 0) → get_or ds n 0 ≡ leaves_in (λ i. get_or ys i 0) n → ((m : ℕ) → (m ≡ n → ⊥) → get_or ds m 0 ≡ get_or cs m 0)
    → Counts ds (λ i. get_or ys i 0)
unfolding leaves_in
counted xs ys cs ds n mv c here others =
    record {
      each = λ m h. elim (cases_eq m n) [
        | inl e ↦ subst (λ k. get_or ds k 0 ≡ leaves_in (λ i. get_or ys i 0) k) (sym e) here
        | inr e ↦ others m e ∙ c.each m h ∙ sym (count_cong _ _ 512 (λ d l. mv.lows (8 + m * 512 + d) (omega arith) (λ o. let a = o.from in let b = o.below in e (omega arith))))
      ];
    }

pub empty_count_lem : (ys : List ℕ) (n : ℕ) → ((d : ℕ) → d < 512 → get_or ys (8 + n * 512 + d) 0 ≡ 0) → leaves_in (λ i. get_or ys i 0) n ≡ 0
unfolding leaves_in
empty_count_lem ys n z = count_none _ 512 z

-- one entry of table n is set, and nothing else in it
pub laid_count : (xs ys : List ℕ) (n i v : ℕ) → n < 8 → On n i → get_or ys i 0 ≡ v
    → ((j : ℕ) → (j ≡ i → ⊥) → (j ≡ n → ⊥) → get_or ys j 0 ≡ get_or xs j 0)
    → leaves_in (λ i. get_or ys i 0) n + one (get_or xs i 0) ≡ leaves_in (λ i. get_or xs i 0) n + one v
unfolding leaves_in
laid_count xs ys n i v m on here others =
    let a = on.from in
    let b = on.below in
    let e : 8 + n * 512 + (i - (8 + n * 512)) ≡ i = omega arith in
    let s = count_set (λ d. get_or xs (8 + n * 512 + d) 0) (λ d. get_or ys (8 + n * 512 + d) 0) 512 (i - (8 + n * 512)) (omega arith) (λ j h ne. others (8 + n * 512 + j) (λ q. ne (omega arith)) (λ q. omega arith)) in
    let x : one (get_or xs (8 + n * 512 + (i - (8 + n * 512))) 0) ≡ one (get_or xs i 0) = ap (λ j. one (get_or xs j 0)) e in
    let y : one (get_or ys (8 + n * 512 + (i - (8 + n * 512))) 0) ≡ one v = ap (λ j. one (get_or ys j 0)) e ∙ ap one here in
    omega (arith, s, x, y)

pub laid_top : (ys : List ℕ) (n count : ℕ) → count ≡ leaves_in (λ i. get_or ys i 0) n
    → cond (eqb count 0) 0 (n * 1024 + 1) ≡ cond (held (λ i. get_or ys i 0) n) (n * 1024 + 1) 0
unfolding leaves_in held
laid_top ys n count e = ap (λ c. cond (eqb c 0) 0 (n * 1024 + 1)) e ∙ count_any _ 512 0 (n * 1024 + 1)

-- no table has more leaves than entries, and an entry that is there is among them
pub few_leaves : (xs : List ℕ) (n : ℕ) → leaves_in (λ i. get_or xs i 0) n ≤ 512
unfolding leaves_in
few_leaves xs n = count_small _ 512

pub among : (xs : List ℕ) (n i : ℕ) → On n i → one (get_or xs i 0) ≤ leaves_in (λ i. get_or xs i 0) n
unfolding leaves_in
among xs n i on =
    let a = on.from in
    let b = on.below in
    let e : 8 + n * 512 + (i - (8 + n * 512)) ≡ i = omega arith in
    let h = count_has (λ d. get_or xs (8 + n * 512 + d) 0) 512 (i - (8 + n * 512)) (omega arith) in
    omega (arith, h, ap (λ j. one (get_or xs j 0)) e)

-- a table without a leaf is empty
pub none_there : (xs : List ℕ) (n : ℕ) → leaves_in (λ i. get_or xs i 0) n ≡ 0 → (d : ℕ) → d < 512 → get_or xs (8 + n * 512 + d) 0 ≡ 0
unfolding leaves_in
none_there xs n z = count_zero _ 512 z

-- where the entries of a page stand
pub on_page : (o p n i : ℕ) → o < 4 → p < 1024 → n ≡ o * 2 + p / 512 → i ≡ 8 + o * 1024 + p → (n < 8) × On n i
on_page o p n i a b e f = (omega arith, record { from = omega arith; below = omega arith })

-- an entry of table n is set, and then upper entry n by the count
module _ (xs cs : List ℕ) (n i v count top : ℕ) (long : length xs ≡ 4104) (eight : length cs ≡ 8) (m : n < 8) (on : On n i) (counts : Counts cs (λ j. get_or xs j 0))
    (is : count ≡ get_or cs n 0 + one v - one (get_or xs i 0)) (points : top ≡ cond (eqb count 0) 0 (n * 1024 + 1)) where
  low_others : (j : ℕ) → (j ≡ i → ⊥) → (j ≡ n → ⊥) → get_or (set (set xs i v) n top) j 0 ≡ get_or xs j 0
  low_others j a b = get_or-set_other _ n j top 0 b ∙ get_or-set_other xs i j v 0 a

  low_here : get_or (set (set xs i v) n top) i 0 ≡ v
  low_here =
      let a = on.from in
      let b = on.below in
      get_or-set_other _ n i top 0 (λ e. omega arith) ∙ get_or-set_same xs i v 0 (omega arith)

  low_count : count ≡ leaves_in (λ j. get_or (set (set xs i v) n top) j 0) n
  low_count = omega (arith, laid_count xs (set (set xs i v) n top) n i v m on low_here low_others, counts.each n m, is)

  pub lowered : Lowered xs (set (set xs i v) n top) n i v
  lowered =
      record {
        here = low_here;
        top = get_or-set_same _ n top 0 (omega (arith, length-set {A = ℕ} xs i v)) ∙ points ∙ laid_top _ n count low_count;
        others = low_others;
      }

  pub low_counts : Counts (set cs n count) (λ j. get_or (set (set xs i v) n top) j 0)
  low_counts =
      counted xs (set (set xs i v) n top) cs (set cs n count) n (lowered_moved xs _ n i v m on lowered) counts
      (get_or-set_same cs n count 0 (omega arith) ∙ low_count) (λ k ne. get_or-set_other cs n k count 0 ne)

-- the entries of table n are 0
module _ (xs ys cs : List ℕ) (n : ℕ) (m : n < 8) (eight : length cs ≡ 8) (counts : Counts cs (λ j. get_or xs j 0)) (w : Written xs ys (8 + n * 512) 512 0 0) where
  pub empty_inside : (d : ℕ) → d < 512 → get_or ys (8 + n * 512 + d) 0 ≡ 0
  empty_inside d h = w.inside d h ∙ (omega arith)

  pub empty_others : (j : ℕ) → (On n j → ⊥) → get_or ys j 0 ≡ get_or xs j 0
  empty_others j off =
      elim (cases_lt j (8 + n * 512)) [
        | inl h ↦ w.lower j h
        | inr h ↦ elim (cases_lt j (8 + n * 512 + 512)) [ inl i ↦ absurd (off (record { from = h; below = i })) | inr i ↦ w.upper j i ]
      ]

  pub empty_counts : Counts (set cs n 0) (λ j. get_or ys j 0)
  empty_counts =
      counted xs ys cs (set cs n 0) n
      (record { tops = λ k h ne. empty_others k (λ o. let a = o.from in omega arith); lows = λ i h off. empty_others i off }) counts
      (get_or-set_same cs n 0 0 (omega arith) ∙ sym (empty_count_lem ys n empty_inside)) (λ k ne. get_or-set_other cs n k 0 0 ne)

-- an upper entry is none of a table's
pub top_counts : (xs cs : List ℕ) (n v : ℕ) → n < 8 → Counts cs (λ j. get_or xs j 0) → Counts cs (λ j. get_or (set xs n v) j 0)
unfolding leaves_in
top_counts xs cs n v m counts =
    record { each = λ k h. counts.each k h ∙ count_cong _ _ 512 (λ d l. sym (get_or-set_other xs n (8 + k * 512 + d) v 0 (λ e. omega arith))) }

-- a leaf that fits starts within its object
pub starts : (o : ℕ) (l : Leaf) → Fit sv39_sizes o l → l.first.0 < 1024
starts o l fit = let w = fit.within in let p = pow_pos l.order in omega arith

-- a leaf of order 9 is put
module _ (xs ys : List ℕ) (o f k g : ℕ) (wr : Bool) (sound : Sound (λ i. get_or xs i 0)) (fit : Fit sv39_sizes o (lay f k g wr)) (nine : k ≡ 9) (even : f % 2 ^ k ≡ 0)
    (w : Topped xs ys (o * 2 + f / 512) (sv39_word g (cond wr 1 0))) where
  pow9 : 2 ^ k ≡ 512
  pow9 = ap (λ y. 2 ^ y) nine

  few : o * 2 + f / 512 < 8
  few = let a = fit.object in let b = fit.within in let p = pow9 in omega arith

  pub put9_sound : Sound (λ i. get_or ys i 0)
  put9_sound =
      let b = fit.bounded in
      let p = pow9 in
      let s : g % 2 ^ k ≡ 0 = fit.straight in
      let s' : g % 512 ≡ 0 = subst (λ y. g % y ≡ 0) p s in
      top_sound xs ys (o * 2 + f / 512) (sv39_word g (cond wr 1 0)) few w sound (small_word g _ (bit_low wr) (omega arith)) (word_upper _ g _ (bit_low wr) s')

  pub put9_ok : PutOk sv39_sizes (sv39_at xs) (sv39_at ys) o (lay f k g wr)
  put9_ok =
      let p = pow9 in
      let e' : f % 512 ≡ 0 = subst (λ y. f % y ≡ 0) p even in
      let b = fit.within in
      record {
        fit = fit;
        unhindered = unhindered sv39_sizes (sv39_at xs) o (sv39_lawful xs sound o) (lay f k g wr) even
            (λ m e. let s = (sv39_lawful xs sound o f m e).sized in let t : get_or sv39_sizes s.place 0 ≤ 9 = sv39_falling.top s.place in omega (arith, s.is, nine));
        filled = big_filled xs ys (o * 2 + f / 512) (top_moved xs ys (o * 2 + f / 512) (sv39_word g (cond wr 1 0)) few w) o (lay f k g wr) (Some (lay f k g wr)) fit.object nine e' (omega arith) refl
            (λ p i j.
            let d : p / 512 ≡ f / 512 = omega arith in
            let z : p / 512 * 512 ≡ f = omega arith in
            let t : get_or ys (o * 2 + p / 512) 0 ≡ sv39_word g (cond wr 1 0) = ap (λ y. get_or ys (o * 2 + y) 0) d ∙ w.here in
            at_big ys put9_sound o p fit.object (omega arith) (ap (λ y. y % 4) t ∙ word_leaf _ _)
            ∙ ap (λ y. Some (leaf_of (p / 512 * 512) 9 y)) t
            ∙ leaf_word (p / 512 * 512) 9 g wr
            ∙ ap (λ y. Some (lay y 9 g wr)) z
            ∙ ap (λ y. Some (lay f y g wr)) (sym nine));
      }

-- a leaf of order 0 is put
module _ (xs ys : List ℕ) (o f k g : ℕ) (wr : Bool) (sound : Sound (λ i. get_or xs i 0)) (fit : Fit sv39_sizes o (lay f k g wr)) (other : k ≡ 9 → ⊥) (even : f % 2 ^ k ≡ 0)
    (clear : get_or xs (o * 2 + f / 512) 0 % 4 ≡ 3 → ⊥) (w : Lowered xs ys (o * 2 + f / 512) (8 + o * 1024 + f) (sv39_word g (cond wr 1 0))) where
  nought : k ≡ 0
  nought = elim (sized k fit.sized) [ inl h ↦ absurd (other h) | inr h ↦ h ]

  page : f < 1024
  page = let b = fit.within in let z : 2 ^ k ≡ 1 = ap (λ y. 2 ^ y) nought in omega arith

  few0 : o * 2 + f / 512 < 8
  few0 = let a = fit.object in let p = page in omega arith

  on0 : On (o * 2 + f / 512) (8 + o * 1024 + f)
  on0 = let p = page in record { from = omega arith; below = omega arith }

  pub put0_sound : Sound (λ i. get_or ys i 0)
  put0_sound =
      let b = fit.bounded in
      let z : 2 ^ k ≡ 1 = ap (λ y. 2 ^ y) nought in
      lowered_sound xs ys (o * 2 + f / 512) (8 + o * 1024 + f) (sv39_word g (cond wr 1 0)) few0 on0 w sound (small_word g _ (bit_low wr) (omega arith)) (word_lower g _ (bit_low wr))

  first : (m : Leaf) → sv39_at xs o f ≡ Some m → m.order ≤ k
  first m e =
      let a : sv39_at xs o f ≡ sv39_leaf f 0 (get_or xs (8 + o * 1024 + f) 0) = at_small xs sound o f fit.object page clear in
      elim (cases_eq (get_or xs (8 + o * 1024 + f) 0 % 4) 3) [
        | inl h ↦ let q : 0 ≡ m.order = ap (λ (z : Leaf). z.order) (some_is _ _ (sym (a ∙ leaf_is f 0 _ h) ∙ e)) in omega arith
        | inr h ↦ absurd (none_some m _ (a ∙ leaf_not f 0 _ h) e)
      ]

  pub put0_ok : PutOk sv39_sizes (sv39_at xs) (sv39_at ys) o (lay f k g wr)
  put0_ok =
      record {
        fit = fit;
        unhindered = unhindered sv39_sizes (sv39_at xs) o (sv39_lawful xs sound o) (lay f k g wr) even first;
        filled = small_filled xs ys (o * 2 + f / 512) (lowered_moved xs ys (o * 2 + f / 512) (8 + o * 1024 + f) (sv39_word g (cond wr 1 0)) few0 on0 w) o (lay f k g wr) (Some (lay f k g wr)) sound put0_sound fit.object nought page refl clear
            (lowered_free xs ys (o * 2 + f / 512) (8 + o * 1024 + f) (sv39_word g (cond wr 1 0)) few0 on0 w)
            (λ p h ne. let q = few0 in w.others (8 + o * 1024 + p) (λ e. ne (omega arith)) (λ e. omega arith))
            (ap (sv39_leaf f 0) w.here ∙ leaf_is f 0 _ (word_leaf _ _) ∙ leaf_word f 0 g wr ∙ ap (λ y. Some (lay f y g wr)) (sym nought));
      }

pub put_reaches : (xs : List ℕ) (o f k g : ℕ) (wr : Bool) → Sound (λ i. get_or xs i 0) → Fit sv39_sizes o (lay f k g wr) → (k ≡ 9 → ⊥) → f % 2 ^ k ≡ 0
    → get_or xs (o * 2 + f / 512) 0 % 4 ≡ 3 → Reaches (sv39_at xs) o (lay f k g wr)
put_reaches xs o f k g wr sound fit other even top =
    let z : k ≡ 0 = elim (sized k fit.sized) [ inl h ↦ absurd (other h) | inr h ↦ h ] in
    let y : 2 ^ k ≡ 1 = ap (λ y. 2 ^ y) z in
    let w = fit.within in
    reaches sv39_sizes (sv39_at xs) o (sv39_lawful xs sound o) (lay f k g wr) even _ (at_big xs sound o f fit.object (omega arith) top) (omega arith)

-- a leaf of order 9 is cleared
module _ (xs ys : List ℕ) (o p : ℕ) (a : o < 4) (b : p < 1024) (sound : Sound (λ i. get_or xs i 0)) (leaf : get_or xs (o * 2 + p / 512) 0 % 4 ≡ 3)
    (w : Topped xs ys (o * 2 + p / 512) 0) where
  few9 : o * 2 + p / 512 < 8
  few9 = omega arith

  pub clear9_sound : Sound (λ i. get_or ys i 0)
  clear9_sound = top_sound xs ys (o * 2 + p / 512) 0 few9 w sound (omega arith) (upper_zero _)

  pub cleared9 : Cleared (sv39_at xs) (sv39_at ys) o p 9
  cleared9 =
      record {
        leaf = leaf_of (p / 512 * 512) 9 (get_or xs (o * 2 + p / 512) 0);
        was = at_big xs sound o p a b leaf;
        order = refl;
        filled = big_filled xs ys (o * 2 + p / 512) (top_moved xs ys (o * 2 + p / 512) 0 few9 w) o _ None a refl (omega arith) (omega arith) (omega arith)
            (λ q i j.
            let d : q / 512 ≡ p / 512 = omega arith in
            let t : get_or ys (o * 2 + q / 512) 0 ≡ 0 = ap (λ y. get_or ys (o * 2 + y) 0) d ∙ w.here in
            let x : 8 + (o * 2 + p / 512) * 512 + q % 512 ≡ 8 + o * 1024 + q = omega arith in
            let z : get_or ys (8 + o * 1024 + q) 0 ≡ 0 = subst (λ y. get_or ys y 0 ≡ 0) x (w.inside (q % 512) (omega arith)) in
            at_small ys clear9_sound o q a (omega arith) (λ h. omega arith) ∙ leaf_not q 0 _ (λ h. omega arith));
      }

-- a leaf of order 0 is cleared
module _ (xs ys : List ℕ) (o p : ℕ) (a : o < 4) (b : p < 1024) (sound : Sound (λ i. get_or xs i 0)) (leaf : get_or xs (o * 2 + p / 512) 0 % 4 ≡ 3 → ⊥)
    (some : get_or xs (8 + o * 1024 + p) 0 ≡ 0 → ⊥) (w : Lowered xs ys (o * 2 + p / 512) (8 + o * 1024 + p) 0) where
  few1 : o * 2 + p / 512 < 8
  few1 = omega arith

  on : On (o * 2 + p / 512) (8 + o * 1024 + p)
  on = record { from = omega arith; below = omega arith }

  pub clear0_sound : Sound (λ i. get_or ys i 0)
  clear0_sound = lowered_sound xs ys (o * 2 + p / 512) (8 + o * 1024 + p) 0 few1 on w sound (omega arith) lower_zero

  is_leaf : get_or xs (8 + o * 1024 + p) 0 % 4 ≡ 3
  is_leaf = elim (lower_kinds _ (sound.low (8 + o * 1024 + p) (omega arith))) [ inl z ↦ absurd (some z) | inr m ↦ ap (λ x. x % 4) m ∙ word_leaf _ _ ]

  pub cleared0 : Cleared (sv39_at xs) (sv39_at ys) o p 0
  cleared0 =
      record {
        leaf = leaf_of p 0 (get_or xs (8 + o * 1024 + p) 0);
        was = at_small xs sound o p a b leaf ∙ leaf_is p 0 _ is_leaf;
        order = refl;
        filled = small_filled xs ys (o * 2 + p / 512) (lowered_moved xs ys (o * 2 + p / 512) (8 + o * 1024 + p) 0 few1 on w) o _ None sound clear0_sound a refl b refl leaf
            (lowered_free xs ys (o * 2 + p / 512) (8 + o * 1024 + p) 0 few1 on w)
            (λ q h ne. w.others (8 + o * 1024 + q) (λ e. ne (omega arith)) (λ e. omega arith))
            (leaf_not p 0 _ (λ h. let z = w.here in omega arith));
      }

-- an empty table
pub blank_sound : (xs : List ℕ) → ((i : ℕ) → get_or xs i 0 ≡ 0) → Sound (λ i. get_or xs i 0)
unfolding held
blank_sound xs z =
    record {
      small = λ i. omega (arith, z i);
      low = λ i h. z i ∙ lower_zero ∙ ap lower_word (sym (z i));
      top = λ n h. z n ∙ upper_zero n ∙ ap (λ x. upper_word n x false) (sym (z n)) ∙ ap (upper_word n (get_or xs n 0)) (sym (any_none _ 512 (λ d l. z (8 + n * 512 + d))));
    }

pub blank_none : (xs : List ℕ) → ((i : ℕ) → get_or xs i 0 ≡ 0) → (o p : ℕ) → sv39_at xs o p ≡ None
blank_none xs z o p =
    elim (cases_lt o 4) [
      | inr g ↦ at_object xs o p g
      | inl a ↦ elim (cases_lt p 1024) [
        | inr g ↦ at_page xs o p g
        | inl b ↦ at_small xs (blank_sound xs z) o p a b (λ h. omega (arith, z (o * 2 + p / 512))) ∙ leaf_not p 0 _ (λ h. omega (arith, z (8 + o * 1024 + p)))
      ]
    ]

-- a call is over: the table is sound, and the call did what it tells
pub record Done (ys : List ℕ) (Told : Type 0) : Type 0 where
  pub sound : Sound (λ i. get_or ys i 0)
  pub told : Told

-- what a step left, at the places and with the entry that the code computed
pub topped_at : {xs ys : List ℕ} {n m v w : ℕ} → n ≡ m → v ≡ w → Topped xs ys n v → Topped xs ys m w
topped_at {xs} {ys} {n} {m} {v} {w} p q t = subst (λ n. Topped xs ys n w) p (subst (Topped xs ys n) q t)

pub lowered_at : {xs ys : List ℕ} {n m i j v w : ℕ} → n ≡ m → i ≡ j → v ≡ w → Lowered xs ys n i v → Lowered xs ys m j w
lowered_at {xs} {ys} {n} {m} {i} {j} {v} {w} p q r t = subst (λ n. Lowered xs ys n j w) p (subst (λ i. Lowered xs ys n i w) q (subst (Lowered xs ys n i) r t))
