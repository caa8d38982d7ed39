use Rattle.std.specs.Prelude.{◌≡◌, ℕ, ◌+◌, ◌*◌, ◌/◌, ◌%◌, ◌^◌, ◌<◌, ◌≤◌, ◌≢◌}
use Rattle.std.proofs.Math.Path.{ap, sym, subst}
use Rattle.std.proofs.Common.{◌∙◌, arith}
use Rattle.std.proofs.Math.Logic.{inl, inr}
use Rattle.std.proofs.Math.Nat.{mod-lt, div-one}
use Rattle.std.proofs.lemmas.Nat.{pow_pos, shl-shr}
use Rattle.std.proofs.lemmas.Bool.{cases_eq, cases_lt}
use Rattle.mapping.specs.AlphaFormat.{order_in, fault_in, alpha_word, frame_in, neighbour}
use Rattle.mapping.specs.AlphaWords.{Order, word_order, word_fault, word_first, word_some, neighbour_is, neighbour_order, neighbour_zero}
use Rattle.mapping.specs.Aligned.{nest}

pub record Sound (t : ℕ → ℕ) : Type 0 where
  pub small : (i : ℕ) → t i < 2 ^ 43
  pub same : (i j : ℕ) → j / 2 ^ order_in (t i) ≡ i / 2 ^ order_in (t i) → t j ≡ neighbour (t i) j

-- b is a block of order k, and everything outside of it stands
pub record Outside (s t : ℕ → ℕ) (b k : ℕ) : Type 0 where
  pub stays : (j : ℕ) → (j / 2 ^ k ≢ b) → t j ≡ s j

-- no leaf goes over the edge of the block
abbrev pub Edge : (ℕ → ℕ) → ℕ → ℕ → Type 0
Edge s b k = (i j : ℕ) → (i / 2 ^ k ≢ b) → j / 2 ^ order_in (s i) ≡ i / 2 ^ order_in (s i) → j / 2 ^ k ≢ b

module _ (s t : ℕ → ℕ) (b k : ℕ) (sound : Sound s) (out : Outside s t b k) where
  kept : Edge s b k → (i j : ℕ) → (i / 2 ^ k ≢ b) → j / 2 ^ order_in (t i) ≡ i / 2 ^ order_in (t i) → t j ≡ neighbour (t i) j
  kept edge i j n e =
      let ti : t i ≡ s i = out.stays i n in
      let e' : j / 2 ^ order_in (s i) ≡ i / 2 ^ order_in (s i) = subst (λ x. j / 2 ^ order_in x ≡ i / 2 ^ order_in x) ti e in
      out.stays j (edge i j n e') ∙ sound.same i j e' ∙ ap (λ x. neighbour x j) (sym ti)

  put_edge : order_in (s (b * 2 ^ k)) ≤ k → Edge s b k
  put_edge h i j n e m =
      elim (cases_lt k (order_in (s i))) [
        | inl l ↦
            let f : b * 2 ^ k / 2 ^ k ≡ j / 2 ^ k = shl-shr b k ∙ sym m in
            let g : b * 2 ^ k / 2 ^ order_in (s i) ≡ i / 2 ^ order_in (s i) = nest k (order_in (s i)) (b * 2 ^ k) j (omega arith) f ∙ e in
            let o : order_in (s (b * 2 ^ k)) ≡ order_in (s i) = ap order_in (sound.same i (b * 2 ^ k) g) ∙ neighbour_order (s i) (b * 2 ^ k) in
            omega arith
        | inr l ↦ n (sym (nest (order_in (s i)) k j i l e) ∙ m)
      ]

  clear_edge : (c : ℕ) → order_in (s c) ≡ k → c / 2 ^ k ≡ b → Edge s b k
  clear_edge c o z i j n e m =
      let g : j / 2 ^ order_in (s c) ≡ c / 2 ^ order_in (s c) = subst (λ x. j / 2 ^ x ≡ c / 2 ^ x) (sym o) (m ∙ sym z) in
      let u : order_in (s j) ≡ order_in (s c) = ap order_in (sound.same c j g) ∙ neighbour_order (s c) j in
      let v : order_in (s j) ≡ order_in (s i) = ap order_in (sound.same i j e) ∙ neighbour_order (s i) j in
      let w : order_in (s i) ≡ k = sym v ∙ u ∙ o in
      n (subst (λ x. i / 2 ^ x ≡ j / 2 ^ x) w (sym e) ∙ m)

  pub sound_put : (n h : ℕ) → Order k → h < 2 → n % 2 ^ k ≡ 0 → n + 2 ^ k ≤ 2048 → order_in (s (b * 2 ^ k)) ≤ k
      → ((j : ℕ) → j / 2 ^ k ≡ b → t j ≡ alpha_word (n + j % 2 ^ k) k h) → Sound t
  unfolding alpha_word
  sound_put n h o l a f r put =
      record {
        small = λ i. elim (cases_eq (i / 2 ^ k) b) [
          | inl y ↦ let x : i % 2 ^ k < 2 ^ k = mod-lt i (pow_pos k) in omega (arith, put i y, o.few, o.is)
          | inr n ↦ subst (λ x. x < 2 ^ 43) (sym (out.stays i n)) (sound.small i)
        ];
        same = λ i j e. elim (cases_eq (i / 2 ^ k) b) [
          | inl y ↦ new i j y e
          | inr n ↦ kept (put_edge r) i j n e
        ];
      }
    where
      new : (i j : ℕ) → i / 2 ^ k ≡ b → j / 2 ^ order_in (t i) ≡ i / 2 ^ order_in (t i) → t j ≡ neighbour (t i) j
      new i j y e =
          let w = put i y in
          let ko : order_in (t i) ≡ k = ap order_in w ∙ word_order (n + i % 2 ^ k) k h o l in
          let kh : fault_in (t i) ≡ h = ap fault_in w ∙ word_fault (n + i % 2 ^ k) k h o l in
          let kb : frame_in (t i) ≡ n = ap frame_in w ∙ word_first n i k h o l a in
          let z : t i ≡ 0 → ⊥ = λ q. word_some (n + i % 2 ^ k) k h (sym w ∙ q) in
          let e' : j / 2 ^ k ≡ b = subst (λ x. j / 2 ^ x ≡ i / 2 ^ x) ko e ∙ y in
          let v : alpha_word (frame_in (t i) + j % 2 ^ order_in (t i)) (order_in (t i)) (fault_in (t i)) ≡ alpha_word (n + j % 2 ^ k) k h = ap (λ x. alpha_word (x + j % 2 ^ order_in (t i)) (order_in (t i)) (fault_in (t i))) kb ∙ ap (λ x. alpha_word (n + j % 2 ^ x) x (fault_in (t i))) ko ∙ ap (alpha_word (n + j % 2 ^ k) k) kh in
          put j e' ∙ sym v ∙ sym (neighbour_is (t i) j z)

  pub sound_clear : (c : ℕ) → order_in (s c) ≡ k → c / 2 ^ k ≡ b → ((j : ℕ) → j / 2 ^ k ≡ b → t j ≡ 0) → Sound t
  unfolding order_in
  sound_clear c o z wipe =
      record {
        small = λ i. elim (cases_eq (i / 2 ^ k) b) [
          | inl y ↦ omega (arith, wipe i y)
          | inr n ↦ subst (λ x. x < 2 ^ 43) (sym (out.stays i n)) (sound.small i)
        ];
        same = λ i j e. elim (cases_eq (i / 2 ^ k) b) [
          | inl y ↦
              let e' : j / 1 ≡ i / 1 = subst (λ x. j / 2 ^ (3 * (x / 32 % 4)) ≡ i / 2 ^ (3 * (x / 32 % 4))) (wipe i y) e in
              let d : j ≡ i = sym (div-one j) ∙ e' ∙ div-one i in
              ap t d ∙ wipe i y ∙ sym (neighbour_zero (t i) j (wipe i y))
          | inr n ↦ kept (clear_edge c o z) i j n e
        ];
      }
