-- Claims as plain functions, how they grow and shrink, and the frames that a table reserves.
use Rattle.std.proofs.Common.{◌≡◌, ℕ, ◌+◌, ◌^◌, ◌<◌, ◌≤◌, Bool, true, false, cond, eqb, leb, ◌⊎◌, List, [], ◌∷◌, ◌++◌, is_some, Some, None, Option, sym, refl, ap, ◌∙◌, inl, inr, arith}
use Rattle.std.proofs.lemmas.Bool.{cases_lt, cases_Bool, and_parts, and_from, eqb-true, eq-eqb, leb-true, le-leb, ltb-true, lt-ltb, cond-true, cond-false, both_ways}
use Rattle.frames.specs.Source.{Source, Took}
use Rattle.page_machine.specs.Counting.{page_count, bit}
use Rattle.page_machine.specs.Reservations.{Reservation, covers, matching, reserved_frame}
use Rattle.page_machine.specs.Claims.{Separate}
use Rattle.page_machine.proofs.Sums.{sum_zero, sum_ones, pages_block}
use Rattle.page_machine.proofs.Options.{none_some, none_or}

-- n frames from f on left the free ones
pub record Grabbed (before after : Source) (f n : ℕ) : Type 0 where
  pub each : (j : ℕ) → j < n → before.free (f + j) ≡ true
  pub gone : (j : ℕ) → j < n → after.free (f + j) ≡ true → ⊥
  pub fewer : (g : ℕ) → after.free g ≡ true → before.free g ≡ true
  pub avail : before.avail ≡ after.avail + n
  pub total : after.total ≡ before.total

pub grabbed : {s t : Source} {k f : ℕ} → Took s k t f k → Grabbed s t f (2 ^ k)
grabbed {s} {t} {k} {f} took = record {
  each = λ j l. took.free.is (f + j) (omega arith) (omega arith);
  gone = λ j l e. both_ways (t.free (f + j)) (took.free.was (f + j) (omega arith) (omega arith)) e;
  fewer = λ g e. elim (cases_lt g f) [
    | inl x ↦ took.free.below g x ∙ e
    | inr x ↦ elim (cases_lt g (f + 2 ^ k)) [ inl y ↦ took.free.is g x y | inr y ↦ took.free.above g y ∙ e ]
  ];
  avail = sym took.avail;
  total = took.total;
}

-- claims as plain functions

abbrev pub One : (ℕ → ℕ → Option ℕ) → Type 0
One c = (o p b q f : ℕ) → c o p ≡ Some f → c b q ≡ Some f → (o ≡ b) × (p ≡ q)

abbrev pub Taken : (ℕ → ℕ → Option ℕ) → (ℕ → Bool) → Type 0
Taken c free = (o p f : ℕ) → c o p ≡ Some f → free f ≡ true → ⊥

pub some_nat : (x y : ℕ) → Some x ≡ Some y → x ≡ y
some_nat x y e = cc

-- n new claims, of pages of ob from a on, on frames from f on
pub record New (d : ℕ → ℕ → Option ℕ) (ob a f n o p : ℕ) : Type 0 where
  pub j : ℕ
  pub below : j < n
  pub object : o ≡ ob
  pub page : p ≡ a + j
  pub claims : d o p ≡ Some (f + j)

module _ (c d : ℕ → ℕ → Option ℕ) (before after : Source) (ob a f n : ℕ) (one : One c) (taken : Taken c before.free) (took : Grabbed before after f n)
    (either : (o p : ℕ) → (d o p ≡ c o p) ⊎ New d ob a f n o p) where
  crossed : (o p b q g : ℕ) → d o p ≡ c o p → d o p ≡ Some g → New d ob a f n b q → d b q ≡ Some g → ⊥
  crossed o p b q g e x w y =
      let z : f + w.j ≡ g = some_nat _ _ (sym w.claims ∙ y) in
      taken o p g (sym e ∙ x) (ap before.free (sym z) ∙ took.each w.j w.below)

  pub grow_one : One d
  grow_one o p b q g x y = elim (either o p) [
    | inl e ↦ elim (either b q) [
      | inl k ↦ one o p b q g (sym e ∙ x) (sym k ∙ y)
      | inr w ↦ absurd (crossed o p b q g e x w y)
    ]
    | inr v ↦ elim (either b q) [
      | inl k ↦ absurd (crossed b q o p g k y v x)
      | inr w ↦
          let z : f + v.j ≡ f + w.j = some_nat _ _ (sym v.claims ∙ x ∙ sym y ∙ w.claims) in
          (omega (arith, v.object, w.object), omega (arith, v.page, w.page))
    ]
  ]

  pub grow_taken : Taken d after.free
  grow_taken o p g x y = elim (either o p) [
    | inl e ↦ taken o p g (sym e ∙ x) (took.fewer g y)
    | inr w ↦
        let z : f + w.j ≡ g = some_nat _ _ (sym w.claims ∙ x) in
        took.gone w.j w.below (ap after.free z ∙ y)
  ]

  pub grow_low : ((o p g : ℕ) → c o p ≡ Some g → g < before.total) → ((g : ℕ) → before.free g ≡ true → g < before.total) →
      (o p g : ℕ) → d o p ≡ Some g → g < after.total
  grow_low low free o p g x = elim (either o p) [
    | inl e ↦ omega (arith, low o p g (sym e ∙ x), took.total)
    | inr w ↦
        let z : f + w.j ≡ g = some_nat _ _ (sym w.claims ∙ x) in
        omega (arith, free (f + w.j) (took.each w.j w.below), took.total)
  ]

-- claims dropped, whose frames become free
module _ (c d : ℕ → ℕ → Option ℕ) (before after : ℕ → Bool) (one : One c) (taken : Taken c before)
    (either : (o p : ℕ) → (d o p ≡ c o p) ⊎ (d o p ≡ None))
    (freed : (g : ℕ) → after g ≡ true → (before g ≡ true) ⊎ ((o : ℕ) × (p : ℕ) × (c o p ≡ Some g) × (d o p ≡ None))) where
  old : (o p f : ℕ) → d o p ≡ Some f → c o p ≡ Some f
  old o p f x = elim (either o p) [ inl e ↦ sym e ∙ x | inr e ↦ absurd (none_some _ f e x) ]

  pub shrink_low : (n k : ℕ) → k ≡ n → ((o p f : ℕ) → c o p ≡ Some f → f < n) → (o p f : ℕ) → d o p ≡ Some f → f < k
  shrink_low n k e low o p f x = omega (arith, low o p f (old o p f x))

  pub shrink_free : (n k : ℕ) → k ≡ n → ((o p f : ℕ) → c o p ≡ Some f → f < n) → ((f : ℕ) → before f ≡ true → f < n) → (f : ℕ) → after f ≡ true → f < k
  shrink_free n k e low free f x = elim (freed f x) [
    | inl z ↦ omega (arith, free f z)
    | inr z ↦ omega (arith, low z.0 z.1 f z.2)
  ]

  pub shrink_one : One d
  shrink_one o p b q f x y = one o p b q f (old o p f x) (old b q f y)

  pub shrink_taken : Taken d after
  shrink_taken o p f x y = elim (freed f y) [
    | inl z ↦ taken o p f (old o p f x) z
    | inr z ↦
        let e = one o p z.0 z.1 f (old o p f x) z.2 in
        let k : d o p ≡ None = ap (λ n. d n p) e.0 ∙ ap (λ n. d z.0 n) e.1 ∙ z.3 in
        none_some _ f k x
  ]

-- n pages of ob from a on claim, where none did
pub count_grow : (c d : ℕ → ℕ → Option ℕ) (ob a n : ℕ) → ob < 4 → a + n ≤ 1024 →
    ((o p : ℕ) → ((o ≡ ob) × (a ≤ p) × (p < a + n) → ⊥) → is_some (c o p) ≡ is_some (d o p)) →
    ((j : ℕ) → j < n → is_some (c ob (a + j)) ≡ false) → ((j : ℕ) → j < n → is_some (d ob (a + j)) ≡ true) →
    page_count (λ o p. is_some (d o p)) ≡ page_count (λ o p. is_some (c o p)) + n
count_grow c d ob a n ho hp same was is =
    omega (
      arith,
      pages_block (λ o p. is_some (c o p)) (λ o p. is_some (d o p)) ob a n ho hp same,
      sum_zero (λ j. bit (is_some (c ob (a + j)))) n (λ j h. ap bit (was j h)),
      sum_ones (λ j. bit (is_some (d ob (a + j)))) n (λ j h. ap bit (is j h)),
    )

-- what a reservation covers

pub record Held (r : Reservation) (o p : ℕ) : Type 0 where
  pub object : o ≡ r.object
  pub from : r.first ≤ p
  pub below : p < r.first + 2 ^ r.order

pub held : (r : Reservation) (o p : ℕ) → covers r o p ≡ true → Held r o p
held r o p e =
    let a = and_parts (eqb o r.object) _ e in
    let b = and_parts (leb r.first p) _ a.1 in
    record { object = eqb-true _ _ a.0; from = leb-true _ _ b.0; below = ltb-true _ _ b.1 }

pub holding : (r : Reservation) (o p : ℕ) → Held r o p → covers r o p ≡ true
holding r o p h = and_from _ _ (eq-eqb _ _ h.object) (and_from _ _ (le-leb _ _ h.from) (lt-ltb _ _ h.below))

-- the table

pub reserved_yes : (r : Reservation) (rs : List Reservation) (o p : ℕ) → covers r o p ≡ true → reserved_frame (r ∷ rs) o p ≡ Some (matching r p)
unfolding reserved_frame
reserved_yes r rs o p e = cond-true _ _ _ e

pub reserved_no : (r : Reservation) (rs : List Reservation) (o p : ℕ) → covers r o p ≡ false → reserved_frame (r ∷ rs) o p ≡ reserved_frame rs o p
unfolding reserved_frame
reserved_no r rs o p e = cond-false _ _ _ e

pub push_no : (rs : List Reservation) (r : Reservation) (o p : ℕ) → covers r o p ≡ false → reserved_frame (rs ++ r ∷ []) o p ≡ reserved_frame rs o p
unfolding reserved_frame
push_no [] r o p e = cond-false _ _ _ e
push_no (x ∷ rs) r o p e = ap (λ y. cond (covers x o p) (Some (matching x p)) y) (push_no rs r o p e)

pub push_yes : (rs : List Reservation) (r : Reservation) (o p : ℕ) → covers r o p ≡ true → reserved_frame rs o p ≡ None → reserved_frame (rs ++ r ∷ []) o p ≡ Some (matching r p)
push_yes [] r o p e n = reserved_yes r [] o p e
push_yes (x ∷ rs) r o p e n = elim (cases_Bool (covers x o p)) [
  | inl y ↦ absurd (none_some _ _ n (reserved_yes x rs o p y))
  | inr y ↦ reserved_no x (rs ++ r ∷ []) o p y ∙ push_yes rs r o p e (sym (reserved_no x rs o p y) ∙ n)
]

module _ (r : Reservation) (o p : ℕ) where
  pub middle_no : (us vs : List Reservation) → covers r o p ≡ false → reserved_frame (us ++ r ∷ vs) o p ≡ reserved_frame (us ++ vs) o p
  unfolding reserved_frame
  middle_no [] vs e = cond-false _ _ _ e
  middle_no (x ∷ us) vs e = ap (λ y. cond (covers x o p) (Some (matching x p)) y) (middle_no us vs e)

  -- the one that covers a page is the only one
  pub middle_yes : (us vs : List Reservation) → Separate (us ++ r ∷ vs) → covers r o p ≡ true → (reserved_frame (us ++ r ∷ vs) o p ≡ Some (matching r p)) × (reserved_frame (us ++ vs) o p ≡ None)
  middle_yes [] vs t e = (reserved_yes r vs o p e, none_or _ (λ f. t.2 o p f e))
  middle_yes (x ∷ us) vs t e =
      let i = middle_yes us vs t.3 e in
      elim (cases_Bool (covers x o p)) [
        | inl y ↦ absurd (t.2 o p (matching r p) y i.0)
        | inr y ↦ (reserved_no x (us ++ r ∷ vs) o p y ∙ i.0, reserved_no x (us ++ vs) o p y ∙ i.1)
      ]

pub middle_inside : (r : Reservation) (us vs : List Reservation) → Separate (us ++ r ∷ vs) → (r.object < 4) × (r.first + 2 ^ r.order ≤ 1024)
middle_inside r [] vs t = (t.0, t.1)
middle_inside r (x ∷ us) vs t = middle_inside r us vs t.3

-- what is reserved_frame without r was reserved_frame with it
pub middle_less : (r : Reservation) (us vs : List Reservation) → Separate (us ++ r ∷ vs) → (o p f : ℕ) → reserved_frame (us ++ vs) o p ≡ Some f → reserved_frame (us ++ r ∷ vs) o p ≡ Some f
middle_less r us vs t o p f e = elim (cases_Bool (covers r o p)) [
  | inl y ↦ absurd (none_some _ f (middle_yes r o p us vs t y).1 e)
  | inr y ↦ middle_no r o p us vs y ∙ e
]

pub middle_table : (r : Reservation) (us vs : List Reservation) → Separate (us ++ r ∷ vs) → Separate (us ++ vs)
middle_table r [] vs t = t.3
middle_table r (x ∷ us) vs t = (t.0, t.1, (λ o p f y e. t.2 o p f y (middle_less r us vs t.3 o p f e)), middle_table r us vs t.3)

pub push_table : (rs : List Reservation) (r : Reservation) → Separate rs → r.object < 4 → r.first + 2 ^ r.order ≤ 1024 → ((o p : ℕ) → covers r o p ≡ true → reserved_frame rs o p ≡ None) → Separate (rs ++ r ∷ [])
unfolding reserved_frame
push_table [] r t ho hp n = (ho, hp, (λ o p f y e. none_some _ f refl e), tt)
push_table (x ∷ rs) r t ho hp n = (
  t.0,
  t.1,
  (λ o p f y e. elim (cases_Bool (covers r o p)) [
    | inl z ↦ none_some _ _ (n o p z) (cond-true (covers x o p) _ _ y)
    | inr z ↦ t.2 o p f y (sym (push_no rs r o p z) ∙ e)
  ]),
  push_table rs r t.3 ho hp (λ o p z. elim (cases_Bool (covers x o p)) [
    | inl y ↦ absurd (none_some _ _ (n o p z) (cond-true (covers x o p) _ _ y))
    | inr y ↦ sym (cond-false (covers x o p) _ _ y) ∙ n o p z
  ]),
)
