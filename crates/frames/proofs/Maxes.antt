use Rattle.std.proofs.Common.{◌≡◌, ℕ, zero, suc, ◌+◌, ◌-◌, ◌*◌, ◌/◌, ◌^◌, ◌<◌, ◌≤◌, Bool, true, false, sym, ap, ◌∙◌, subst, ⊎_elim, arith, pow_mono}
use Rattle.std.proofs.lemmas.Nat.{pow-add, shr-shr, shl-shr}
use Rattle.std.proofs.lemmas.Bool.{cases_eq, cases_order, cases_lt, both_ways}
use Rattle.frames.specs.Maximal.{Whole, Max, Splits, node, Marked}

pub up : (f j m : ℕ) → j ≤ m → f / 2 ^ m ≡ f / 2 ^ j / 2 ^ (m - j)
up f j m h = let e : m ≡ j + (m - j) = omega arith in ap (λ (x : ℕ). f / 2 ^ x) e ∙ sym (shr-shr f j (m - j))

same_up : (f g j m : ℕ) → j ≤ m → g / 2 ^ j ≡ f / 2 ^ j → g / 2 ^ m ≡ f / 2 ^ m
same_up f g j m h e = up g j m h ∙ ap (λ (x : ℕ). x / 2 ^ (m - j)) e ∙ sym (up f j m h)

pub half : (f j : ℕ) → f / 2 ^ suc j ≡ f / 2 ^ j / 2
half f j = let e : suc j ≡ j + 1 = omega arith in ap (λ (x : ℕ). f / 2 ^ x) e ∙ sym (shr-shr f j 1)

-- the first frame of a block
pub first : (j i : ℕ) → (i * 2 ^ j) / 2 ^ j ≡ i
first j i = shl-shr i j

-- what holds of a block holds of the blocks in it
grow : (p : ℕ → Bool) (j m i f : ℕ) → j ≤ m → Whole p m i → f / 2 ^ m ≡ i → Whole p j (f / 2 ^ j)
grow p j m i f h w e = λ g d. w g (same_up f g j m h d ∙ e)

-- so no block round a maximal one is whole
pub outer : (p : ℕ → Bool) (j i m k f : ℕ) → j < m → m ≤ 9 → Max p j i → f / 2 ^ j ≡ i → f / 2 ^ m ≡ k → Whole p m k → ⊥
outer p j i m k f h n x d e w =
    x.1 (omega arith) (subst (Whole p (suc j)) (half f j ∙ ap (λ (y : ℕ). y / 2) d) (grow p (suc j) m k f (omega arith) w e))

-- two maximal blocks with a frame in common are one
pub max_one : (p : ℕ → Bool) (j i m k f : ℕ) → j ≤ 9 → m ≤ 9 → Max p j i → Max p m k → f / 2 ^ j ≡ i → f / 2 ^ m ≡ k → (j ≡ m) × (i ≡ k)
max_one p j i m k f a b x y d e =
    ⊎_elim (λ (o : j ≡ m). (o, sym d ∙ ap (λ (z : ℕ). f / 2 ^ z) o ∙ e))
    (⊎_elim (λ (l : j < m). absurd (outer p j i m k f l b x d e y.0)) (λ (g : m < j). absurd (outer p m k j i f g a y e d x.0)))
    (cases_order j m)

sub : (q p : ℕ → Bool) (m k : ℕ) → Splits q p m k → (f : ℕ) → p f ≡ true → q f ≡ true
sub q p m k s f h = ⊎_elim (λ e. s.has f e) (λ n. sym (s.same f n) ∙ h) (cases_eq (f / 2 ^ m) k)

-- the maximal blocks of p are those of q but for the one that p lacks
pub max_less : (q p : ℕ → Bool) (m k j i : ℕ) → m ≤ 9 → j ≤ 9 → Splits q p m k → Max q m k → Max q j i → ((j ≡ m) × (i ≡ k) → ⊥) → Max p j i
max_less q p m k j i a b s x y ne = (
  λ f e. ⊎_elim (λ d. absurd (ne (max_one q j i m k f b a y x e d))) (λ n. s.same f n ∙ y.0 f e) (cases_eq (f / 2 ^ m) k),
  λ l w. y.1 l (λ f e. sub q p m k s f (w f e)),
)

pub max_more : (q p : ℕ → Bool) (m k j i : ℕ) → m ≤ 9 → j ≤ 9 → Splits q p m k → Max q m k → Max p j i → Max q j i
max_more q p m k j i a b s x y = (
  λ f e. sub q p m k s f (y.0 f e),
  λ l w. y.1 l
      (λ f e. ⊎_elim
      (λ (d : f / 2 ^ m ≡ k).
      ⊎_elim
      (λ (u : j < m).
      let g : ℕ = i * 2 ^ j in
      let t : g / 2 ^ m ≡ k =
      same_up f g (suc j) m (omega arith) (half g j ∙ ap (λ (z : ℕ). z / 2) (first j i) ∙ sym e) ∙ d in
      absurd (both_ways (p g) (s.lacks g t) (y.0 g (first j i))))
      (λ (u : m ≤ j). absurd (outer q m k (suc j) (i / 2) f (omega arith) (omega arith) x d e w))
      (cases_lt j m))
      (λ n. s.same f n ∙ w f e)
      (cases_eq (f / 2 ^ m) k)),
)

-- a frame of p lies in a maximal block
pub held : (p : ℕ → Bool) (f : ℕ) (n j : ℕ) → n + j ≡ 9 → Whole p j (f / 2 ^ j) → ((m : ℕ) → j ≤ m → m ≤ 9 → Max p m (f / 2 ^ m) → ⊥) → ⊥
held p f zero j e w none = none j (omega arith) (omega arith) (w, λ l. absurd (omega arith))
held p f (suc n) j e w none =
    none j (omega arith) (omega arith)
    (w, λ l v. held p f n (suc j) (omega arith) (subst (Whole p (suc j)) (sym (half f j)) v) (λ m a b. none m (omega arith) b))

-- a block that joins is maximal, where its order is the last or its buddy is not whole
pub max_new : (q p : ℕ → Bool) (m k c : ℕ) → Splits q p m k → c / 2 ≡ k / 2 → (c ≡ k → ⊥) → (m < 9 → Whole p m c → ⊥) → Max q m k
max_new q p m k c s e ne out = (
  λ f d. s.has f d,
  λ l w. out l (λ f d. s.same f (λ h. ne (sym d ∙ h)) ∙ w f (half f m ∙ ap (λ (z : ℕ). z / 2) d ∙ e)),
)

-- two marks have two places
pub node_one : (j i m k : ℕ) → j ≤ 9 → m ≤ 9 → i < 2 ^ (11 - j) → k < 2 ^ (11 - m) → node j i ≡ node m k → (j ≡ m) × (i ≡ k)
node_one j i m k a b x y e =
    ⊎_elim (λ (o : j ≡ m). (o, let h = ap (λ (z : ℕ). 2 ^ (11 - z)) o in omega (arith, h)))
    (⊎_elim (λ (l : j < m). absurd (apart j i m k l b y e)) (λ (g : m < j). absurd (apart m k j i g a x (sym e))))
    (cases_order j m)
  where
    apart : (j i m k : ℕ) → j < m → m ≤ 9 → k < 2 ^ (11 - m) → node j i ≡ node m k → ⊥
    apart j i m k l b y e =
        let h : 2 ^ (11 - m + 1) ≤ 2 ^ (11 - j) = pow_mono {i = 11 - m + 1} {j = 11 - j} (omega arith) in
        omega (arith, h, pow-add 2 (11 - m) 1)

-- what a mark that is set or taken away says
pub marked_more : (b b' q p : ℕ → Bool) (m k : ℕ) → m ≤ 9 → k < 2 ^ (11 - m) → Splits q p m k → Max q m k → Marked b p
    → b' (node m k) ≡ true → ((n : ℕ) → (n ≡ node m k → ⊥) → b' n ≡ b n) → Marked b' q
marked_more b b' q p m k a c s x h here others = (
  λ j i l r t. ⊎_elim
      (λ (e : node j i ≡ node m k). let o = node_one j i m k l a r c e in
      subst (λ (z : ℕ). Max q z i) (sym o.0) (subst (Max q m) (sym o.1) x))
      (λ n. max_more q p m k j i a l s x (h.0 j i l r (sym (others (node j i) n) ∙ t)))
      (cases_eq (node j i) (node m k)),
  λ j i l r t. ⊎_elim
      (λ (e : node j i ≡ node m k). ap b' e ∙ here)
      (λ n. others (node j i) n ∙ h.1 j i l r (max_less q p m k j i a l s x t (λ o. n (same_node j i m k o))))
      (cases_eq (node j i) (node m k)),
)
  where
    same_node : (j i m k : ℕ) → (j ≡ m) × (i ≡ k) → node j i ≡ node m k
    same_node j i m k o = let h = ap (λ (z : ℕ). 2 ^ (11 - z)) o.0 in let d = o.1 in omega (arith, h, d)

pub marked_less : (b b' q p : ℕ → Bool) (m k : ℕ) → m ≤ 9 → k < 2 ^ (11 - m) → Splits q p m k → Max q m k → Marked b q
    → b' (node m k) ≡ false → ((n : ℕ) → (n ≡ node m k → ⊥) → b' n ≡ b n) → Marked b' p
marked_less b b' q p m k a c s x h here others = (
  λ j i l r t. ⊎_elim
      (λ (e : node j i ≡ node m k). absurd (both_ways (b' (node j i)) (ap b' e ∙ here) t))
      (λ n. max_less q p m k j i a l s x (h.0 j i l r (sym (others (node j i) n) ∙ t)) (λ o. n (same_node j i m k o)))
      (cases_eq (node j i) (node m k)),
  λ j i l r t. ⊎_elim
      (λ (e : node j i ≡ node m k). let o = node_one j i m k l a r c e in
      let g : ℕ = i * 2 ^ j in
      absurd (both_ways (p g) (s.lacks g (ap (λ (z : ℕ). g / 2 ^ z) (sym o.0) ∙ first j i ∙ o.1)) (t.0 g (first j i))))
      (λ n. others (node j i) n ∙ h.1 j i l r (max_more q p m k j i a l s x t))
      (cases_eq (node j i) (node m k)),
)
  where
    same_node : (j i m k : ℕ) → (j ≡ m) × (i ≡ k) → node j i ≡ node m k
    same_node j i m k o = let h = ap (λ (z : ℕ). 2 ^ (11 - z)) o.0 in let d = o.1 in omega (arith, h, d)
