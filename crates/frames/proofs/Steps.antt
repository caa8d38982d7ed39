use Rattle.std.proofs.Common.{◌≡◌, ℕ, suc, ◌+◌, ◌-◌, ◌*◌, ◌/◌, ◌^◌, ◌<◌, ◌≤◌, Bool, true, false, not, ◌&&◌, eqb, sym, ap, ◌∙◌, subst, ⊎_elim, mul_assoc, arith}
use Rattle.std.proofs.Math.Bool.{and-true, and-false}
use Rattle.std.proofs.lemmas.Nat.{shl-shr, pow-add}
use Rattle.std.proofs.lemmas.Bool.{cases_eq, both_ways, eq-eqb, ne_eqb}
use Rattle.frames.specs.Maximal.{Whole, Max, Splits, Parts, node, Marked}
use Rattle.frames.proofs.Maxes.{up, half, first, max_new, marked_more, marked_less}

-- q without a block
pub less : (ℕ → Bool) → ℕ → ℕ → ℕ → Bool
less q m k f = q f && not (eqb (f / 2 ^ m) k)

pub less_in : (q : ℕ → Bool) (m k f : ℕ) → f / 2 ^ m ≡ k → less q m k f ≡ false
unfolding less
less_in q m k f e = ap (λ (b : Bool). q f && not b) (eq-eqb (f / 2 ^ m) k e) ∙ and-false (q f)

pub less_out : (q : ℕ → Bool) (m k f : ℕ) → (f / 2 ^ m ≡ k → ⊥) → less q m k f ≡ q f
unfolding less
less_out q m k f n = ap (λ (b : Bool). q f && not b) (ne_eqb (f / 2 ^ m) k n) ∙ and-true (q f)

pub splits_less : (q : ℕ → Bool) (m k : ℕ) → Whole q m k → Splits q (less q m k) m k
splits_less q m k w = record { has = w; lacks = less_in q m k; same = less_out q m k }

-- what holds of a set holds of another with the same frames
max_same : (p q : ℕ → Bool) (j i : ℕ) → ((f : ℕ) → p f ≡ q f) → Max p j i → Max q j i
max_same p q j i e x = (λ f d. sym (e f) ∙ x.0 f d, λ l w. x.1 l (λ f d. e f ∙ w f d))

pub marked_same : (b p q : ℕ → Bool) → ((f : ℕ) → p f ≡ q f) → Marked b p → Marked b q
marked_same b p q e h =
    (λ j i l r t. max_same p q j i e (h.0 j i l r t), λ j i l r x. h.1 j i l r (max_same q p j i (λ f. sym (e f)) x))

-- a step of a split: the held block goes down to its lower half, and the upper half is marked
pub split_step : (b b' p : ℕ → Bool) (m k j i : ℕ) → suc j ≤ m → m ≤ 9 → i * 2 + 1 < 2 ^ (11 - j)
    → ((f : ℕ) → f / 2 ^ suc j ≡ i → f / 2 ^ m ≡ k)
    → ((q : ℕ → Bool) → Parts p q m k (suc j) i → Marked b q)
    → b' (node j (i * 2 + 1)) ≡ true → ((n : ℕ) → (n ≡ node j (i * 2 + 1) → ⊥) → b' n ≡ b n)
    → (q : ℕ → Bool) → Parts p q m k j (i * 2) → Marked b' q
split_step b b' p m k j i a c d under h here others q x =
    let up : (f : ℕ) → f / 2 ^ j ≡ i * 2 + 1 → f / 2 ^ suc j ≡ i = λ f e. half f j ∙ omega arith in
    let w : Whole q j (i * 2 + 1) = λ f e. x.inside f (under f (up f e)) (λ z. omega arith) in
    let s : Splits q (less q j (i * 2 + 1)) j (i * 2 + 1) = splits_less q j (i * 2 + 1) w in
    let o : Parts p (less q j (i * 2 + 1)) m k (suc j) i =
    record {
      lacks = x.lacks;
      inside = λ f e n. less_out q j (i * 2 + 1) f (λ z. n (up f z)) ∙ x.inside f e (λ z. n (half f j ∙ omega arith));
      held = λ f e.
          ⊎_elim (λ (z : f / 2 ^ j ≡ i * 2 + 1). less_in q j (i * 2 + 1) f z)
          (λ (z : f / 2 ^ j ≡ i * 2 + 1 → ⊥). less_out q j (i * 2 + 1) f z ∙ x.held f (let t = half f j in omega arith))
          (cases_eq (f / 2 ^ j) (i * 2 + 1));
      outside = λ f n. less_out q j (i * 2 + 1) f (λ z. n (under f (up f z))) ∙ x.outside f n;
    } in
    let y : Max q j (i * 2 + 1) =
    max_new q (less q j (i * 2 + 1)) j (i * 2 + 1) (i * 2) s (omega arith) (λ z. omega arith)
    (λ l v. both_ways (less q j (i * 2 + 1) (i * 2 * 2 ^ j))
    (less_out q j (i * 2 + 1) (i * 2 * 2 ^ j) (λ z. let t = first j (i * 2) in omega arith) ∙ x.held (i * 2 * 2 ^ j) (first j (i * 2)))
    (v (i * 2 * 2 ^ j) (first j (i * 2)))) in
    marked_more b b' q (less q j (i * 2 + 1)) j (i * 2 + 1) (omega arith) d s y (h (less q j (i * 2 + 1)) o) here others

-- the loop of a split, at the order that it comes to
pub split_room : (J i : ℕ) → 0 < J → J ≤ 9 → i < 2 ^ (11 - J) → i * 2 + 1 < 2 ^ (11 - (J - 1))
split_room J i z a h =
    let e : 11 - (J - 1) ≡ 11 - J + 1 = omega arith in
    let d = ap (λ (x : ℕ). 2 ^ x) e ∙ pow-add 2 (11 - J) 1 in
    omega (arith, d)

pub split_index : (m k J i j c : ℕ) → J ≡ j + 1 → J ≤ m → c ≡ i * 2 → i ≡ k * 2 ^ (m - J) → c ≡ k * 2 ^ (m - j)
split_index m k J i j c s a d h =
    let e : m - j ≡ m - J + 1 = omega arith in
    let t = ap (λ (x : ℕ). k * 2 ^ x) e ∙ ap (λ (x : ℕ). k * x) (pow-add 2 (m - J) 1) ∙ sym (mul_assoc k (2 ^ (m - J)) 2) in
    d ∙ ap (λ (x : ℕ). x * 2) h ∙ sym t

pub split_again : (b b' p : ℕ → Bool) (m k J i j c j' c' : ℕ) → J ≡ j + 1 → J ≤ m → m ≤ 9 → c ≡ i * 2 → j' ≡ j → c' ≡ i * 2 + 1 → c' < 2 ^ (11 - j')
    → i ≡ k * 2 ^ (m - J) → ((q : ℕ → Bool) → Parts p q m k J i → Marked b q)
    → b' (node j' c') ≡ true → ((x : ℕ) → (x ≡ node j' c' → ⊥) → b' x ≡ b x)
    → (q : ℕ → Bool) → Parts p q m k j c → Marked b' q
split_again b b' p m k J i j c j' c' s a l d o r n e h here others q x =
    let u : J ≡ suc j = omega arith in
    let t = ap (λ (y : ℕ). 2 ^ (11 - y)) o in
    let z : node j' c' ≡ node j (i * 2 + 1) = omega (arith, t) in
    split_step b b' p m k j i (omega arith) l (omega (arith, t))
    (λ f w. up f J m a ∙ ap (λ (y : ℕ). y / 2 ^ (m - J)) (ap (λ (y : ℕ). f / 2 ^ y) u ∙ w ∙ e) ∙ shl-shr k (m - J))
    (subst (λ (y : ℕ). (q : ℕ → Bool) → Parts p q m k y i → Marked b q) u h)
    (ap b' (sym z) ∙ here) (λ y w. others y (λ v. w (v ∙ z)))
    q (subst (Parts p q m k j) d x)

-- a step of a merge: the buddy of the held block is marked, so the held block becomes the one round both
pub merge_step : (b b' q : ℕ → Bool) (j i c : ℕ) → j < 9 → c / 2 ≡ i / 2 → (c ≡ i → ⊥) → c < 2 ^ (11 - j)
    → Whole q j i → Marked b (less q j i)
    → b (node j c) ≡ true → b' (node j c) ≡ false → ((x : ℕ) → (x ≡ node j c → ⊥) → b' x ≡ b x)
    → Whole q (suc j) (i / 2) × Marked b' (less q (suc j) (i / 2))
merge_step b b' q j i c l e ne r w h was here others =
    let x : Max (less q j i) j c = h.0 j c (omega arith) r was in
    let d : (f : ℕ) → f / 2 ^ j ≡ c → f / 2 ^ j ≡ i → ⊥ = λ f y z. ne (sym y ∙ z) in
    let v : Whole q j c = λ f y. sym (less_out q j i f (d f y)) ∙ x.0 f y in
    let s : Splits (less q j i) (less q (suc j) (i / 2)) j c =
    record {
      has = x.0;
      lacks = λ f y. less_in q (suc j) (i / 2) f (half f j ∙ ap (λ (z : ℕ). z / 2) y ∙ e);
      same = λ f y.
          ⊎_elim
          (λ (z : f / 2 ^ suc j ≡ i / 2).
          less_in q (suc j) (i / 2) f z ∙ sym (less_in q j i f (let t = half f j in omega arith)))
          (λ (z : f / 2 ^ suc j ≡ i / 2 → ⊥).
          less_out q (suc j) (i / 2) f z ∙ sym (less_out q j i f (λ y. z (half f j ∙ ap (λ (z : ℕ). z / 2) y))))
          (cases_eq (f / 2 ^ suc j) (i / 2));
    } in (
      λ f y. ⊎_elim (λ (z : f / 2 ^ j ≡ i). w f z) (λ (z : f / 2 ^ j ≡ i → ⊥). v f (let t = half f j in omega arith)) (cases_eq (f / 2 ^ j) i),
      marked_less b b' (less q j i) (less q (suc j) (i / 2)) j c (omega arith) r s x h here others,
    )

pub merge_again : (b b' q : ℕ → Bool) (j i j' c J I : ℕ) → j' ≡ j → c / 2 ≡ i / 2 → (c ≡ i → ⊥) → J ≡ j + 1 → I ≡ i / 2 → J ≤ 9 → c < 2 ^ (11 - j')
    → Whole q j i × Marked b (less q j i)
    → b (node j' c) ≡ true → b' (node j' c) ≡ false → ((x : ℕ) → (x ≡ node j' c → ⊥) → b' x ≡ b x)
    → Whole q J I × Marked b' (less q J I)
merge_again b b' q j i j' c J I o e ne s d l r w was here others =
    let t = ap (λ (y : ℕ). 2 ^ (11 - y)) o in
    let z : node j' c ≡ node j c = omega (arith, t) in
    let u : suc j ≡ J = omega arith in
    let h = merge_step b b' q j i c (omega arith) e ne (omega (arith, t)) w.0 w.1 (ap b (sym z) ∙ was) (ap b' (sym z) ∙ here) (λ y v. others y (λ k. v (k ∙ z))) in
    subst (λ (y : ℕ). Whole q y I × Marked b' (less q y I)) u
    (subst (λ (y : ℕ). Whole q (suc j) y × Marked b' (less q (suc j) y)) (sym d) h)

-- and its end
pub merge_end : (b b' q : ℕ → Bool) (j i j' c : ℕ) → j ≤ 9 → i < 2 ^ (11 - j) → j' ≡ j → c / 2 ≡ i / 2 → (c ≡ i → ⊥) → c < 2 ^ (11 - j')
    → Whole q j i × Marked b (less q j i) → b (node j' c) ≡ false
    → b' (node j i) ≡ true → ((x : ℕ) → (x ≡ node j i → ⊥) → b' x ≡ b x) → Marked b' q
merge_end b b' q j i j' c a r o e ne u w out here others =
    let t = ap (λ (y : ℕ). 2 ^ (11 - y)) o in
    let z : node j' c ≡ node j c = omega (arith, t) in
    let h = w.1 in
    let s : Splits q (less q j i) j i = splits_less q j i w.0 in
    let x : Max q j i =
    max_new q (less q j i) j i c s e ne
    (λ l v. both_ways (b (node j c)) (ap b (sym z) ∙ out) (h.1 j c a (omega (arith, t)) (
      v,
      λ k t. both_ways (less q j i (i * 2 ^ j)) (less_in q j i (i * 2 ^ j) (first j i))
          (t (i * 2 ^ j) (half (i * 2 ^ j) j ∙ ap (λ (z : ℕ). z / 2) (first j i) ∙ sym e)),
    ))) in
    marked_more b b' q (less q j i) j i a r s x h here others

pub twin_room : (j i c : ℕ) → j ≤ 9 → i < 2 ^ (11 - j) → c / 2 ≡ i / 2 → c < 2 ^ (11 - j)
twin_room j i c a h e =
    let t : 11 - j ≡ 10 - j + 1 = omega arith in
    let d = ap (λ (x : ℕ). 2 ^ x) t ∙ pow-add 2 (10 - j) 1 in
    omega (arith, d)

pub half_room : (j i : ℕ) → j < 9 → i < 2 ^ (11 - j) → i / 2 < 2 ^ (11 - (j + 1))
half_room j i a h =
    let t : 11 - j ≡ 11 - (j + 1) + 1 = omega arith in
    let d = ap (λ (x : ℕ). 2 ^ x) t ∙ pow-add 2 (11 - (j + 1)) 1 in
    omega (arith, d)

pub merge_start : (b : ℕ → Bool) (m k : ℕ) (p q : ℕ → Bool) → Marked b p → Splits q p m k → Whole q m k × Marked b (less q m k)
merge_start b m k p q h s = (
  s.has,
  marked_same b p (less q m k)
      (λ f. ⊎_elim (λ e. s.lacks f e ∙ sym (less_in q m k f e)) (λ n. s.same f n ∙ sym (less_out q m k f n)) (cases_eq (f / 2 ^ m) k)) h,
)

pub merge_last : (b b' q : ℕ → Bool) (j i : ℕ) → j ≡ 9 → i < 2 ^ (11 - j) → Whole q j i × Marked b (less q j i)
    → b' (node j i) ≡ true → ((x : ℕ) → (x ≡ node j i → ⊥) → b' x ≡ b x) → Marked b' q
merge_last b b' q j i e r w here others =
    marked_more b b' q (less q j i) j i (omega arith) r (splits_less q j i w.0) (w.0, λ l. absurd (omega arith)) w.1 here others
