use Rattle.std.proofs.Common.{◌≡◌, ℕ, zero, suc, ◌+◌, ◌-◌, ◌*◌, ◌/◌, ◌^◌, ◌<◌, ◌≤◌, Bool, true, false, cond, sym, refl, ap, ◌∙◌, subst, ⊎_elim, mul_assoc, arith}
use Rattle.std.proofs.lemmas.Nat.{shl-shr, pow_pos, pow-add}
use Rattle.std.proofs.lemmas.Bool.{cases_lt, cases_Bool, both_ways}
use Rattle.blocks.proofs.Spans.{in_block, of_block, below}
use Rattle.frames.specs.Source.{tally, Joined}
use Rattle.frames.specs.Tally.{tally_joined}
use Rattle.frames.specs.Maximal.{Whole, Max, Splits, Parts, node, Marked, BlockAt, MarkedWhole, MarkedAlone, MarkedAll, Lowest, Tile}
use Rattle.frames.proofs.Maxes.{up, first, held, marked_less, max_one}
use Rattle.frames.proofs.Steps.{less, less_in, less_out, splits_less}

-- the marks, as the struct has them
pub marked_from : (b p : ℕ → Bool) → MarkedWhole b p → MarkedAlone b p → MarkedAll b p → Marked b p
marked_from b p w a f = (
  λ j i l r t.
      let x : BlockAt = record { order = j; index = i; low = l; room = r } in
      (λ g e. w x t (record { frame = g; here = e }), a x t),
  λ j i l r m. f (record { order = j; index = i; low = l; room = r }) m,
)

pub whole_from : (b p : ℕ → Bool) → Marked b p → MarkedWhole b p
whole_from b p m x t y = (m.0 x.order x.index x.low x.room t).0 y.frame y.here

pub alone_from : (b p : ℕ → Bool) → Marked b p → MarkedAlone b p
alone_from b p m x t = (m.0 x.order x.index x.low x.room t).1

pub full_from : (b p : ℕ → Bool) → Marked b p → MarkedAll b p
full_from b p m x = m.1 x.order x.index x.low x.room

-- a set whose frames of a block went
pub record Emptied (F F' : ℕ → Bool) (i e : ℕ) : Type 0 where
  pub gone : (f : ℕ) → i ≤ f → f < e → F' f ≡ false
  pub below : (f : ℕ) → f < i → F' f ≡ F f
  pub above : (f : ℕ) → e ≤ f → F' f ≡ F f

emptied_in : (F F' : ℕ → Bool) (k r : ℕ) → Emptied F F' (r * 2 ^ k) (r * 2 ^ k + 2 ^ k) → (f : ℕ) → f / 2 ^ k ≡ r → F' f ≡ false
emptied_in F F' k r h f e = let o = of_block k r f e in h.gone f o.0 o.1

emptied_out : (F F' : ℕ → Bool) (k r : ℕ) → Emptied F F' (r * 2 ^ k) (r * 2 ^ k + 2 ^ k) → (f : ℕ) → (f / 2 ^ k ≡ r → ⊥) → F' f ≡ F f
emptied_out F F' k r h f n =
    ⊎_elim (λ (l : f < r * 2 ^ k). h.below f l)
    (λ (g : r * 2 ^ k ≤ f).
    ⊎_elim (λ (l : f < r * 2 ^ k + 2 ^ k). absurd (n (in_block k r f g l))) (λ (u : r * 2 ^ k + 2 ^ k ≤ f). h.above f u)
    (cases_lt f (r * 2 ^ k + 2 ^ k)))
    (cases_lt f (r * 2 ^ k))

-- a take
pub take_marks : (M M₁ M₂ F F' : ℕ → Bool) (m j k r : ℕ) → k ≤ m → m ≤ 9 → j < 2 ^ (11 - m) → r ≡ j * 2 ^ (m - k)
    → Marked M F → M (node m j) ≡ true → M₁ (node m j) ≡ false → ((x : ℕ) → (x ≡ node m j → ⊥) → M₁ x ≡ M x)
    → ((p q : ℕ → Bool) → Marked M₁ p → Parts p q m j k r → Marked M₂ q)
    → Emptied F F' (r * 2 ^ k) (r * 2 ^ k + 2 ^ k) → Whole F k r × Marked M₂ F'
take_marks M M₁ M₂ F F' m j k r a c d e h was here others go t =
    let x : Max F m j = h.0 m j c d was in
    let under : (f : ℕ) → f / 2 ^ k ≡ r → f / 2 ^ m ≡ j =
    λ f y. up f k m a ∙ ap (λ (z : ℕ). z / 2 ^ (m - k)) (y ∙ e) ∙ shl-shr j (m - k) in
    let h₁ : Marked M₁ (less F m j) =
    marked_less M M₁ F (less F m j) m j c d (splits_less F m j x.0) x h here others in (
      λ f y. x.0 f (under f y),
      go (less F m j) F' h₁
          (record {
            lacks = λ f y. less_in F m j f y;
            inside = λ f y o. emptied_out F F' k r t f o ∙ x.0 f y;
            held = λ f y. emptied_in F F' k r t f y;
            outside = λ f o. emptied_out F F' k r t f (λ y. o (under f y)) ∙ sym (less_out F m j f o);
          }),
    )

pub take_joined : (F F' : ℕ → Bool) (k r : ℕ) → Whole F k r → Emptied F F' (r * 2 ^ k) (r * 2 ^ k + 2 ^ k) → Joined F' F (r * 2 ^ k) (r * 2 ^ k + 2 ^ k)
take_joined F F' k r w t =
    record { was = t.gone; is = λ f a b. w f (in_block k r f a b); below = λ f a. sym (t.below f a); above = λ f a. sym (t.above f a) }

pub whole_within : (F : ℕ → Bool) (k r n : ℕ) → Whole F k r → ((f : ℕ) → F f ≡ true → f < n) → r * 2 ^ k + 2 ^ k ≤ n
whole_within F k r n w h =
    let p = pow_pos k in
    let l = h (r * 2 ^ k + (2 ^ k - 1)) (w (r * 2 ^ k + (2 ^ k - 1)) (in_block k r (r * 2 ^ k + (2 ^ k - 1)) (omega arith) (omega arith))) in
    omega arith

pub emptied_within : (F F' : ℕ → Bool) (i e n : ℕ) → Joined F' F i e → ((f : ℕ) → F f ≡ true → f < n) → (f : ℕ) → F' f ≡ true → f < n
emptied_within F F' i e n j h f y =
    ⊎_elim (λ (l : f < i). h f (j.below f l ∙ y))
    (λ (g : i ≤ f). ⊎_elim (λ (l : f < e). absurd (both_ways (F' f) (j.was f g l) y)) (λ (u : e ≤ f). h f (j.above f u ∙ y)) (cases_lt f e))
    (cases_lt f i)

-- a give
pub give_splits : (F F' : ℕ → Bool) (k r : ℕ) → Joined F F' (r * 2 ^ k) (r * 2 ^ k + 2 ^ k) → Splits F' F k r
give_splits F F' k r j =
    record {
      has = λ f e. let o = of_block k r f e in j.is f o.0 o.1;
      lacks = λ f e. let o = of_block k r f e in j.was f o.0 o.1;
      same = λ f n.
          ⊎_elim (λ (l : f < r * 2 ^ k). sym (j.below f l))
          (λ (g : r * 2 ^ k ≤ f).
          ⊎_elim (λ (l : f < r * 2 ^ k + 2 ^ k). absurd (n (in_block k r f g l))) (λ (u : r * 2 ^ k + 2 ^ k ≤ f). sym (j.above f u))
          (cases_lt f (r * 2 ^ k + 2 ^ k)))
          (cases_lt f (r * 2 ^ k));
    }

pub joined_within : (F F' : ℕ → Bool) (i e n : ℕ) → Joined F F' i e → e ≤ n → ((f : ℕ) → F f ≡ true → f < n) → (f : ℕ) → F' f ≡ true → f < n
joined_within F F' i e n j l h f y =
    ⊎_elim (λ (u : f < e). omega arith) (λ (u : e ≤ f). h f (sym (j.above f u) ∙ y)) (cases_lt f e)

-- nothing is free where nothing is marked
pub tally_none : (p : ℕ → Bool) (n : ℕ) → ((f : ℕ) → f < n → p f ≡ false) → tally p n ≡ 0
tally_none p zero h = refl
tally_none p (suc n) h =
    let e = tally_none p n (λ f l. h f (omega arith)) in
    let d = ap (λ (b : Bool). cond {A = ℕ} b 1 0) (h n (omega arith)) in
    omega (arith, e, d)

pub tally_all : (p : ℕ → Bool) (n : ℕ) → ((f : ℕ) → f < n → p f ≡ true) → tally p n ≡ n
tally_all p zero h = refl
tally_all p (suc n) h =
    let e = tally_all p n (λ f l. h f (omega arith)) in
    let d = ap (λ (b : Bool). cond {A = ℕ} b 1 0) (h n (omega arith)) in
    omega (arith, e, d)

pub dry : (M F : ℕ → Bool) (n : ℕ) → n ≤ 2048 → Marked M F → ((j i : ℕ) → 0 ≤ j → j ≤ 9 → i < 2 ^ (11 - j) → M (node j i) ≡ false) → tally F n ≡ 0
dry M F n l h none =
    tally_none F n
    (λ f u. ⊎_elim
    (λ (t : F f ≡ true).
    absurd (held F f 9 0 refl (λ g e. ap F {y = f} (omega arith) ∙ t)
    (λ m a b x. let r = below m f b (omega arith) in
    both_ways (M (node m (f / 2 ^ m))) (none m (f / 2 ^ m) (omega arith) b r) (h.1 m (f / 2 ^ m) b r x))))
    (λ t. t)
    (cases_Bool (F f)))

-- what a take does, all told
pub take_all : (M M₁ M₂ F F' : ℕ → Bool) (m j k r b o total : ℕ) → k ≤ m → m ≤ 9 → j < 2 ^ (11 - m) → r ≡ j * 2 ^ (m - k)
    → Marked M F → ((f : ℕ) → F f ≡ true → f < total)
    → M (node m j) ≡ true → M₁ (node m j) ≡ false → ((x : ℕ) → (x ≡ node m j → ⊥) → M₁ x ≡ M x)
    → ((p q : ℕ → Bool) → Marked M₁ p → Parts p q m j k r → Marked M₂ q)
    → b ≡ r * 2 ^ k → o ≡ k
    → ((f : ℕ) → b ≤ f → f < b + 2 ^ o → F' f ≡ false) → ((f : ℕ) → f < b → F' f ≡ F f) → ((f : ℕ) → b + 2 ^ o ≤ f → F' f ≡ F f)
    → Joined F' F b (b + 2 ^ k) × Marked M₂ F' × (tally F total ≡ tally F' total + 2 ^ k) × ((f : ℕ) → F' f ≡ true → f < total)
take_all M M₁ M₂ F F' m j k r b o total a c d e h w was here others go be oe g lo hi =
    let p : 2 ^ o ≡ 2 ^ k = ap (λ (x : ℕ). 2 ^ x) oe in
    let t : Emptied F F' (r * 2 ^ k) (r * 2 ^ k + 2 ^ k) =
    record { gone = λ f x y. g f (omega arith) (omega arith); below = λ f x. lo f (omega arith); above = λ f x. hi f (omega arith) } in
    let x = take_marks M M₁ M₂ F F' m j k r a c d e h was here others go t in
    let z = take_joined F F' k r x.0 t in (
      subst (λ (y : ℕ). Joined F' F y (y + 2 ^ k)) (sym be) z,
      x.1,
      tally_joined F' F (r * 2 ^ k) (2 ^ k) total z (whole_within F k r total x.0 w),
      emptied_within F F' (r * 2 ^ k) (r * 2 ^ k + 2 ^ k) total z w,
    )

-- what a give does, all told
pub give_all : (M M' F F' : ℕ → Bool) (k o r b total : ℕ) → b ≡ r * 2 ^ k → o ≡ k → b + 2 ^ k ≤ total
    → Marked M F → ((f : ℕ) → F f ≡ true → f < total)
    → ((p q : ℕ → Bool) → Marked M p → Splits q p o r → Marked M' q)
    → ((f : ℕ) → b ≤ f → f < b + 2 ^ k → F f ≡ false)
    → ((f : ℕ) → b ≤ f → f < b + 2 ^ k → F' f ≡ true) → ((f : ℕ) → f < b → F' f ≡ F f) → ((f : ℕ) → b + 2 ^ k ≤ f → F' f ≡ F f)
    → Joined F F' b (b + 2 ^ k) × Marked M' F' × (tally F' total ≡ tally F total + 2 ^ k) × ((f : ℕ) → F' f ≡ true → f < total)
give_all M M' F F' k o r b total be oe l h w go was here lo hi =
    let j : Joined F F' b (b + 2 ^ k) = record { was = was; is = here; below = lo; above = hi } in
    let s : Splits F' F k r = give_splits F F' k r (subst (λ (y : ℕ). Joined F F' y (y + 2 ^ k)) be j) in
    (j, go F F' h (subst (λ (y : ℕ). Splits F' F y r) (sym oe) s), tally_joined F F' b (2 ^ k) total j l, joined_within F F' b (b + 2 ^ k) total j l w)

-- one frame more
pub one_more : (F F' : ℕ → Bool) (i : ℕ) → ((f : ℕ) → f < i → F f ≡ true) → ((f : ℕ) → i ≤ f → F f ≡ false)
    → F' i ≡ true → ((f : ℕ) → (f ≡ i → ⊥) → F' f ≡ F f) → Splits F' F 0 i
one_more F F' i lo hi here others =
    record {
      has = λ f e. ap F' {y = i} (omega arith) ∙ here;
      lacks = λ f e. hi f (omega arith);
      same = λ f n. sym (others f (λ e. n (omega arith)));
    }

pub none_marked : (M F : ℕ → Bool) → ((n : ℕ) → M n ≡ false) → ((f : ℕ) → F f ≡ false) → Marked M F
none_marked M F m e = (
  λ j i l r t. absurd (both_ways (M (node j i)) (m (node j i)) t),
  λ j i l r x. absurd (both_ways (F (i * 2 ^ j)) (e (i * 2 ^ j)) (x.0 (i * 2 ^ j) (first j i))),
)

pub max_room : (F : ℕ → Bool) (j i n : ℕ) → n ≤ 2048 → ((f : ℕ) → F f ≡ true → f < n) → j ≤ 9 → Max F j i → i < 2 ^ (11 - j)
max_room F j i n l w a x =
    let h = w (i * 2 ^ j) (x.0 (i * 2 ^ j) (first j i)) in
    rw (← first j i) (below j (i * 2 ^ j) a (omega arith))

-- no maximal block of an order without marks
pub unmarked : (M F : ℕ → Bool) (j i n : ℕ) → n ≤ 2048 → ((f : ℕ) → F f ≡ true → f < n) → Marked M F → j ≤ 9
    → (i < 2 ^ (11 - j) → M (node j i) ≡ false) → Max F j i → ⊥
unmarked M F j i n l w h a o x =
    let r = max_room F j i n l w a x in both_ways (M (node j i)) (o r) (h.1 j i a r x)

pub take_lowest : (M F : ℕ → Bool) (m j k r b n : ℕ) → n ≤ 2048 → ((f : ℕ) → F f ≡ true → f < n) → Marked M F
    → k ≤ m → m ≤ 9 → j < 2 ^ (11 - m) → M (node m j) ≡ true
    → ((i : ℕ) → i < j → M (node m i) ≡ false) → ((h i : ℕ) → k ≤ h → h < m → i < 2 ^ (11 - h) → M (node h i) ≡ false)
    → r ≡ j * 2 ^ (m - k) → b ≡ r * 2 ^ k → Lowest F k b
take_lowest M F m j k r b n l w h a c d t lo le re be =
    let s : m ≡ m - k + k = omega arith in
    let e : b ≡ j * 2 ^ m =
    be ∙ ap (λ (x : ℕ). x * 2 ^ k) re ∙ mul_assoc j (2 ^ (m - k)) (2 ^ k) ∙ ap (λ (x : ℕ). j * x) (sym (pow-add 2 (m - k) k) ∙ ap (λ (x : ℕ). 2 ^ x) (sym s)) in
    let q : b / 2 ^ m ≡ j = ap (λ (x : ℕ). x / 2 ^ m) e ∙ first m j in
    record {
      order = m;
      from = a;
      low = c;
      max = subst (Max F m) (sym q) (h.0 m j c d t);
      start = e ∙ ap (λ (x : ℕ). x * 2 ^ m) (sym q);
      least = λ g i x y z. unmarked M F g i n l w h (omega arith) (λ v. le g i x y v) z;
      lowest = λ i x z. unmarked M F m i n l w h c (λ v. lo i (omega (arith, q))) z;
    }

-- the maximal blocks tile the set
pub tile : (M F : ℕ → Bool) (j i f b o : ℕ) → Marked M F → j ≤ 9 → i < 2 ^ (11 - j) → i ≡ f / 2 ^ j → M (node j i) ≡ true → b ≡ i * 2 ^ j → o ≡ j → Tile F f b o
tile M F j i f b o h a r e t be oe =
    let x : Max F j i = h.0 j i a r t in
    let q : b / 2 ^ j ≡ i = ap (λ (n : ℕ). n / 2 ^ j) be ∙ first j i in
    subst (λ (n : ℕ). Tile F f b n) (sym oe)
    (record {
      low = a;
      here = sym e ∙ sym q;
      max = subst (Max F j) (sym q) x;
      only = λ k c l y d. let o = max_one F k c j i f l a y x d (sym e) in (o.0, o.1 ∙ sym q);
    })

pub untiled : (M F : ℕ → Bool) (f : ℕ) → f < 2048 → Marked M F → ((j : ℕ) → j ≤ 9 → M (node j (f / 2 ^ j)) ≡ false) → F f ≡ false
untiled M F f u h none =
    ⊎_elim
    (λ (t : F f ≡ true).
    absurd (held F f 9 0 refl (λ g e. ap F {y = f} (omega arith) ∙ t)
    (λ m a b x. both_ways (M (node m (f / 2 ^ m))) (none m b) (h.1 m (f / 2 ^ m) b (below m f b u) x))))
    (λ t. t)
    (cases_Bool (F f))
