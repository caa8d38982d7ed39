-- What each change of pages and reservations keeps of claims and their count.
use Rattle.std.proofs.Common.{◌≡◌, ℕ, ◌+◌, ◌-◌, ◌^◌, ◌<◌, ◌≤◌, Bool, true, false, not, ◌&&◌, eqb, ltb, leb, ◌⊎◌, List, [], ◌∷◌, ◌++◌, is_some, Some, None, Option, sym, refl, ap, ◌∙◌, ap₂, inl, inr, arith}
use Rattle.std.proofs.lemmas.Bool.{cases_eq, cases_lt, cases_Bool, and_parts, and_from, and_left, and_right, eq-eqb, ne_eqb, leb-true, le-leb, ltb-true, lt-ltb, cond-true, cond-false, both_ways, not-true}
use Rattle.frames.specs.Source.{Source}
use Rattle.page_machine.specs.Leaves.{Home, home, Homes}
use Rattle.page_machine.specs.Counting.{sum, page_count, bit}
use Rattle.page_machine.specs.Reservations.{Reservation, Table, covers, matching, reserved_frame, population, is_empty, empty_count}
use Rattle.page_machine.specs.Claims.{Places, places, claim_of, claim, Separate, Apart, rehome}
use Rattle.page_machine.specs.ClaimLaws.{Keeps, Marking, Unmarking, Aging, Adding, FillingUp, GivingBack, TakingOne, GivingOne}
use Rattle.page_machine.proofs.Sums.{sum_same, sum_ones, sum_has, sum_both, pages_block}
use Rattle.page_machine.proofs.Claiming.{some_nat, Grabbed, grabbed, New, grow_one, grow_taken, grow_low, shrink_one, shrink_taken, shrink_low, shrink_free, count_grow, held, holding, push_no, push_yes, middle_no, middle_yes, middle_inside, middle_less, middle_table, push_table}
use Rattle.page_machine.proofs.Options.{none_some}

pub claim_none : (x : Option Home) (y : Option ℕ) → claim_of x y ≡ None → (x ≡ None) × (y ≡ None)
claim_none None y e = (refl, e)
claim_none (Some x) y e = absurd (none_some _ _ e refl)

pub rehome_here : (h : ℕ → Homes) (o p : ℕ) (x : Option Home) → rehome h o p x o p ≡ x
rehome_here h o p x = cond-true (eqb o o && eqb p p) _ _ (and_from _ _ (eq-eqb o o refl) (eq-eqb p p refl))

pub rehome_there : (h : ℕ → Homes) (o p : ℕ) (x : Option Home) (b q : ℕ) → ((b ≡ o) × (q ≡ p) → ⊥) → rehome h o p x b q ≡ h b q
rehome_there h o p x b q n = cond-false (eqb b o && eqb q p) _ _ (elim (cases_eq b o) [
  | inl e ↦ and_right _ _ (ne_eqb q p (λ f. n (e, f)))
  | inr e ↦ and_left _ _ (ne_eqb b o e)
])

pub here : (o p b q : ℕ) → ((b ≡ o) × (q ≡ p)) ⊎ ((b ≡ o) × (q ≡ p) → ⊥)
here o p b q = elim (cases_eq b o) [
  | inl e ↦ elim (cases_eq q p) [ inl f ↦ inl (e, f) | inr f ↦ inr (λ x. f x.1) ]
  | inr e ↦ inr (λ x. e x.0)
]

reserved_inside : (rs : List Reservation) → Separate rs → (o p f : ℕ) → reserved_frame rs o p ≡ Some f → (o < 4) × (p < 1024)
unfolding reserved_frame
reserved_inside [] t o p f e = absurd (none_some _ f refl e)
reserved_inside (r ∷ rs) t o p f e = elim (cases_Bool (covers r o p)) [
  | inl y ↦ let h = held r o p y in (omega (arith, t.0), omega (arith, t.1))
  | inr y ↦ reserved_inside rs t.3 o p f (sym (cond-false (covers r o p) _ _ y) ∙ e)
]

-- the same claims over the same source
module _ (s : Places) (h : ℕ → Homes) (rs : List Reservation) (a : Apart s) (t : Separate rs)
    (same : (o p : ℕ) → claim_of (h o p) (reserved_frame rs o p) ≡ claim s o p)
    (inside : (o p : ℕ) (x : Home) → h o p ≡ Some x → (o < 4) × (p < 1024))
    (matched : (o p f : ℕ) (x : Home) → h o p ≡ Some x → reserved_frame rs o p ≡ Some f → x.frame ≡ f) where
  pub same_claims : Keeps s (places h rs s.source)
  same_claims = record {
    apart = record {
      table = t;
      inside = inside;
      matched = matched;
      single = λ o p b q f x y. a.single o p b q f (sym (same o p) ∙ x) (sym (same b q) ∙ y);
      taken = λ o p f x y. a.taken o p f (sym (same o p) ∙ x) y;
      low = λ o p f x. a.low o p f (sym (same o p) ∙ x);
      free = a.free;
    };
    total = ap (λ (c : ℕ → ℕ → Option ℕ). page_count (λ o p. is_some (c o p)) + s.source.avail) (λ i o p. same o p i);
  }

pub marks : Marking
marks s o p f m a away res =
    same_claims s h s.table a a.table same inside matched
  where
    x : Home
    x = home f m

    h : ℕ → Homes
    h = rehome s.homes o p (Some x)

    at : (b q : ℕ) (y : Home) → h b q ≡ Some y → ((b ≡ o) × (q ≡ p) × (y ≡ x)) ⊎ (s.homes b q ≡ Some y)
    at b q y e = elim (here o p b q) [
      | inl k ↦
          let z : h b q ≡ Some x = ap₂ h k.0 k.1 ∙ rehome_here s.homes o p (Some x) in
          let w : y ≡ x = cc (e, z) in
          inl (k.0, k.1, w)
      | inr k ↦ inr (sym (rehome_there s.homes o p (Some x) b q k) ∙ e)
    ]

    same : (b q : ℕ) → claim_of (h b q) (reserved_frame s.table b q) ≡ claim s b q
    same b q = elim (here o p b q) [
      | inl k ↦
          ap₂ (λ c r. claim_of (h c r) (reserved_frame s.table c r)) k.0 k.1
          ∙ ap (λ y. claim_of y (reserved_frame s.table o p)) (rehome_here s.homes o p (Some x))
          ∙ sym (ap₂ (λ c r. claim s c r) k.0 k.1 ∙ ap₂ claim_of away res)
      | inr k ↦ ap (λ y. claim_of y (reserved_frame s.table b q)) (rehome_there s.homes o p (Some x) b q k)
    ]

    inside : (b q : ℕ) (y : Home) → h b q ≡ Some y → (b < 4) × (q < 1024)
    inside b q y e = elim (at b q y e) [
      | inl k ↦ let i = reserved_inside s.table a.table o p f res in (omega (arith, k.0, i.0), omega (arith, k.1, i.1))
      | inr k ↦ a.inside b q y k
    ]

    matched : (b q g : ℕ) (y : Home) → h b q ≡ Some y → reserved_frame s.table b q ≡ Some g → y.frame ≡ g
    matched b q g y e r = elim (at b q y e) [
      | inl k ↦ ap (λ (z : Home). z.frame) k.2 ∙ some_nat _ _ (sym res ∙ sym (ap₂ (reserved_frame s.table) k.0 k.1) ∙ r)
      | inr k ↦ a.matched b q g y k r
    ]

pub unmarks : Unmarking
unmarks s o p f a res =
    same_claims s h s.table a a.table same (λ b q y e. a.inside b q y (at b q y e)) (λ b q g y e r. a.matched b q g y (at b q y e) r)
  where
    h : ℕ → Homes
    h = rehome s.homes o p None

    at : (b q : ℕ) (y : Home) → h b q ≡ Some y → s.homes b q ≡ Some y
    at b q y e = elim (here o p b q) [
      | inl k ↦ absurd (none_some _ y (ap₂ h k.0 k.1 ∙ rehome_here s.homes o p None) e)
      | inr k ↦ sym (rehome_there s.homes o p None b q k) ∙ e
    ]

    was : (y : Option Home) → s.homes o p ≡ y → claim_of y (Some f) ≡ Some f
    was None e = refl
    was (Some y) e = ap (λ n. Some n) (a.matched o p f y e res)

    same : (b q : ℕ) → claim_of (h b q) (reserved_frame s.table b q) ≡ claim s b q
    same b q = elim (here o p b q) [
      | inl k ↦
          ap₂ (λ c r. claim_of (h c r) (reserved_frame s.table c r)) k.0 k.1
          ∙ ap₂ claim_of (rehome_here s.homes o p None) res
          ∙ sym (ap₂ (λ c r. claim s c r) k.0 k.1 ∙ ap (claim_of (s.homes o p)) res ∙ was (s.homes o p) refl)
      | inr k ↦ ap (λ y. claim_of y (reserved_frame s.table b q)) (rehome_there s.homes o p None b q k)
    ]

pub youngest : Aging
youngest h us r vs source a =
    same_claims _ h ((us ++ vs) ++ r ∷ []) a table (λ o p. ap (claim_of (h o p)) (same o p)) a.inside
    (λ o p f x e i. a.matched o p f x e (sym (same o p) ∙ i))
  where
    less : (o p : ℕ) → covers r o p ≡ true → reserved_frame (us ++ vs) o p ≡ None
    less o p y = (middle_yes r o p us vs a.table y).1

    table : Separate ((us ++ vs) ++ r ∷ [])
    table = let i = middle_inside r us vs a.table in push_table (us ++ vs) r (middle_table r us vs a.table) i.0 i.1 less

    same : (o p : ℕ) → reserved_frame ((us ++ vs) ++ r ∷ []) o p ≡ reserved_frame (us ++ r ∷ vs) o p
    same o p = elim (cases_Bool (covers r o p)) [
      | inl y ↦ push_yes (us ++ vs) r o p y (less o p y) ∙ sym (middle_yes r o p us vs a.table y).0
      | inr y ↦ push_no (us ++ vs) r o p y ∙ sym (middle_no r o p us vs y)
    ]

some_is : {A : Type 0} (x : Option A) (f : A) → x ≡ Some f → is_some x ≡ true
some_is x f e = ap is_some e

none_is : {A : Type 0} (x : Option A) → x ≡ None → is_some x ≡ false
none_is x e = ap is_some e

pub reserves : Adding
reserves s r after a ho hp un given = record {
  apart = record {
    table = push_table s.table r a.table ho hp (λ o p y. (claim_none _ _ (un o p y)).1);
    inside = a.inside;
    matched = λ o p f x e i. elim (cases_Bool (covers r o p)) [
      | inl y ↦ absurd (none_some _ x (claim_none _ _ (un o p y)).0 e)
      | inr y ↦ a.matched o p f x e (sym (push_no s.table r o p y) ∙ i)
    ];
    single = grow_one (claim s) d s.source after r.object r.first r.frame (2 ^ r.order) a.single a.taken took either;
    taken = grow_taken (claim s) d s.source after r.object r.first r.frame (2 ^ r.order) a.single a.taken took either;
    low = grow_low (claim s) d s.source after r.object r.first r.frame (2 ^ r.order) a.single a.taken took either a.low a.free;
    free = λ g e. omega (arith, a.free g (took.fewer g e), took.total);
  };
  total =
      let k : page_count (λ o p. is_some (d o p)) ≡ page_count (λ o p. is_some (claim s o p)) + 2 ^ r.order
      = count_grow (claim s) d r.object r.first (2 ^ r.order) ho hp
      (λ o p n. ap is_some (sym (off o p (λ y. let w = held r o p y in n (w.object, w.from, w.below)))))
      (λ j l. none_is _ (un r.object (r.first + j) (on j l)))
      (λ j l. some_is _ _ (new r.object (r.first + j) (on j l))) in
      omega (arith, took.avail);
}
  where
    took : Grabbed s.source after r.frame (2 ^ r.order)
    took = grabbed given

    d : ℕ → ℕ → Option ℕ
    d = λ o p. claim_of (s.homes o p) (reserved_frame (s.table ++ r ∷ []) o p)

    on : (j : ℕ) → j < 2 ^ r.order → covers r r.object (r.first + j) ≡ true
    on j l = holding r r.object (r.first + j) (record { object = refl; from = omega arith; below = omega arith })

    off : (o p : ℕ) → (covers r o p ≡ true → ⊥) → d o p ≡ claim s o p
    off o p n = elim (cases_Bool (covers r o p)) [ inl y ↦ absurd (n y) | inr y ↦ ap (claim_of (s.homes o p)) (push_no s.table r o p y) ]

    new : (o p : ℕ) → covers r o p ≡ true → d o p ≡ Some (matching r p)
    new o p y =
        let n = claim_none (s.homes o p) (reserved_frame s.table o p) (un o p y) in
        ap₂ claim_of n.0 (push_yes s.table r o p y n.1)

    either : (o p : ℕ) → (d o p ≡ claim s o p) ⊎ New d r.object r.first r.frame (2 ^ r.order) o p
    either o p = elim (cases_Bool (covers r o p)) [
      | inl y ↦ let w = held r o p y in inr (record { j = p - r.first; below = omega arith; object = w.object; page = omega arith; claims = new o p y })
      | inr y ↦ inl (ap (claim_of (s.homes o p)) (push_no s.table r o p y))
    ]

pub claimed : (x : Option Home) (f : ℕ) → is_some (claim_of x (Some f)) ≡ true
claimed None f = refl
claimed (Some x) f = refl

pub unclaimed : (x : Option Home) → is_some (claim_of x None) ≡ is_some x
unclaimed None = refl
unclaimed (Some x) = refl

not_some : {A : Type 0} (x : Option A) → not (is_some x) ≡ true → x ≡ None
not_some None e = refl
not_some (Some x) e = absurd (both_ways true (not-true true e) refl)

-- frames that pass the test, n of them, became free
pub record Returned (before after : Source) (back : ℕ → Bool) (n : ℕ) : Type 0 where
  pub more : (g : ℕ) → after.free g ≡ true → (before.free g ≡ true) ⊎ (back g ≡ true)
  pub avail : after.avail ≡ before.avail + n
  pub total : after.total ≡ before.total

-- a reservation leaves the table and its empty frames become free
pub breaks : (h : ℕ → Homes) (us : Table) (r : Reservation) (vs : Table) (before after : Source) → Apart (places h (us ++ r ∷ vs) before) →
    Returned before after (is_empty h r) (empty_count h r) → Keeps (places h (us ++ r ∷ vs) before) (places h (us ++ vs) after)
breaks h us r vs before after a gave = record {
  apart = record {
    table = middle_table r us vs a.table;
    inside = a.inside;
    matched = λ o p f x e i. a.matched o p f x e (middle_less r us vs a.table o p f i);
    single = shrink_one c d before.free after.free a.single a.taken either freed;
    taken = shrink_taken c d before.free after.free a.single a.taken either freed;
    low = shrink_low c d before.free after.free a.single a.taken either freed before.total after.total gave.total a.low;
    free = shrink_free c d before.free after.free a.single a.taken either freed before.total after.total gave.total a.low a.free;
  };
  total =
      let i = middle_inside r us vs a.table in
      let k = pages_block (λ o p. is_some (c o p)) (λ o p. is_some (d o p)) r.object r.first (2 ^ r.order) i.0 i.1
      (λ o p n. ap is_some (sym (off o p (λ y. let w = held r o p y in n (w.object, w.from, w.below))))) in
      let full : sum (λ j. bit (is_some (c r.object (r.first + j)))) (2 ^ r.order) ≡ 2 ^ r.order
      = sum_ones _ (2 ^ r.order) (λ j l. ap bit (ap (λ y. is_some (claim_of (h r.object (r.first + j)) y)) (middle_yes r _ _ us vs a.table (on j l)).0 ∙ claimed (h r.object (r.first + j)) _)) in
      let rest : sum (λ j. bit (is_some (d r.object (r.first + j)))) (2 ^ r.order) ≡ sum (λ j. bit (is_some (h r.object (r.first + j)))) (2 ^ r.order)
      = sum_same _ _ (2 ^ r.order) (λ j l. ap bit (ap (λ y. is_some (claim_of (h r.object (r.first + j)) y)) (middle_yes r _ _ us vs a.table (on j l)).1 ∙ unclaimed (h r.object (r.first + j)))) in
      omega (arith, gave.avail, sum_both (λ j. is_some (h r.object (r.first + j))) (2 ^ r.order));
}
  where
    c : ℕ → ℕ → Option ℕ
    c = λ o p. claim_of (h o p) (reserved_frame (us ++ r ∷ vs) o p)

    d : ℕ → ℕ → Option ℕ
    d = λ o p. claim_of (h o p) (reserved_frame (us ++ vs) o p)

    on : (j : ℕ) → j < 2 ^ r.order → covers r r.object (r.first + j) ≡ true
    on j l = holding r r.object (r.first + j) (record { object = refl; from = omega arith; below = omega arith })

    off : (o p : ℕ) → (covers r o p ≡ true → ⊥) → d o p ≡ c o p
    off o p n = elim (cases_Bool (covers r o p)) [ inl y ↦ absurd (n y) | inr y ↦ ap (claim_of (h o p)) (sym (middle_no r o p us vs y)) ]

    held_page : (o p : ℕ) → covers r o p ≡ true → (x : Option Home) → h o p ≡ x → (d o p ≡ c o p) ⊎ (d o p ≡ None)
    held_page o p y None e = inr (ap₂ claim_of e (middle_yes r o p us vs a.table y).1)
    held_page o p y (Some x) e = inl (ap (λ z. claim_of z (reserved_frame (us ++ vs) o p)) e ∙ sym (ap (λ z. claim_of z (reserved_frame (us ++ r ∷ vs) o p)) e))

    either : (o p : ℕ) → (d o p ≡ c o p) ⊎ (d o p ≡ None)
    either o p = elim (cases_Bool (covers r o p)) [
      | inl y ↦ held_page o p y (h o p) refl
      | inr y ↦ inl (off o p (λ z. both_ways _ y z))
    ]

    freed : (g : ℕ) → after.free g ≡ true → (before.free g ≡ true) ⊎ ((o : ℕ) × (p : ℕ) × (c o p ≡ Some g) × (d o p ≡ None))
    freed g e = elim (gave.more g e) [
      | inl x ↦ inl x
      | inr x ↦
          let u = and_parts (leb r.frame g) _ x in
          let v = and_parts (ltb g (r.frame + 2 ^ r.order)) _ u.1 in
          let lo : r.frame ≤ g = leb-true _ _ u.0 in
          let hi : g < r.frame + 2 ^ r.order = ltb-true _ _ v.0 in
          let n : h r.object (r.first + (g - r.frame)) ≡ None = not_some _ v.1 in
          let m = middle_yes r r.object (r.first + (g - r.frame)) us vs a.table (on (g - r.frame) (omega arith)) in
          let z : matching r (r.first + (g - r.frame)) ≡ g = omega arith in
          inr (r.object, r.first + (g - r.frame), ap₂ claim_of n m.0 ∙ ap (λ k. Some k) z, ap₂ claim_of n m.1)
    ]

pub bases : TakingOne
bases s o p f m after a ho hp un given = record {
  apart = record {
    table = a.table;
    inside = λ b q y e. elim (at b q y e) [
      | inl k ↦ (omega (arith, k.0), omega (arith, k.1))
      | inr k ↦ a.inside b q y k
    ];
    matched = λ b q g y e r. elim (at b q y e) [
      | inl k ↦ absurd (none_some _ g (claim_none (s.homes o p) (reserved_frame s.table o p) un).1 (sym (ap₂ (reserved_frame s.table) k.0 k.1) ∙ r))
      | inr k ↦ a.matched b q g y k r
    ];
    single = grow_one (claim s) d s.source after o p f 1 a.single a.taken took either;
    taken = grow_taken (claim s) d s.source after o p f 1 a.single a.taken took either;
    low = grow_low (claim s) d s.source after o p f 1 a.single a.taken took either a.low a.free;
    free = λ g e. omega (arith, a.free g (took.fewer g e), took.total);
  };
  total =
      let k : page_count (λ b q. is_some (d b q)) ≡ page_count (λ b q. is_some (claim s b q)) + 1
      = count_grow (claim s) d o p 1 ho (omega arith)
      (λ b q n. ap is_some (sym (off b q (λ e. n (e.0, omega (arith, e.1), omega (arith, e.1))))))
      (λ j l. let z : p + j ≡ p = omega arith in ap (λ n. is_some (claim s o n)) z ∙ none_is _ un)
      (λ j l. let z : p + j ≡ p = omega arith in ap (λ n. is_some (d o n)) z ∙ some_is _ _ now) in
      omega (arith, took.avail);
}
  where
    took : Grabbed s.source after f 1
    took = grabbed given

    x : Home
    x = home f m

    h : ℕ → Homes
    h = rehome s.homes o p (Some x)

    d : ℕ → ℕ → Option ℕ
    d = λ b q. claim_of (h b q) (reserved_frame s.table b q)

    at : (b q : ℕ) (y : Home) → h b q ≡ Some y → ((b ≡ o) × (q ≡ p)) ⊎ (s.homes b q ≡ Some y)
    at b q y e = elim (here o p b q) [
      | inl k ↦ inl k
      | inr k ↦ inr (sym (rehome_there s.homes o p (Some x) b q k) ∙ e)
    ]

    off : (b q : ℕ) → ((b ≡ o) × (q ≡ p) → ⊥) → d b q ≡ claim s b q
    off b q k = ap (λ y. claim_of y (reserved_frame s.table b q)) (rehome_there s.homes o p (Some x) b q k)

    now : d o p ≡ Some f
    now = ap (λ y. claim_of y (reserved_frame s.table o p)) (rehome_here s.homes o p (Some x))

    either : (b q : ℕ) → (d b q ≡ claim s b q) ⊎ New d o p f 1 b q
    either b q = elim (here o p b q) [
      | inl k ↦
          let z : f ≡ f + 0 = omega arith in
          inr (record { j = 0; below = omega arith; object = k.0; page = omega (arith, k.1); claims = ap₂ d k.0 k.1 ∙ now ∙ ap (λ n. Some n) z })
      | inr k ↦ inl (off b q k)
    ]

pub frees : GivingOne
frees s o p x after a is un gave = record {
  apart = record {
    table = a.table;
    inside = λ b q y e. a.inside b q y (at b q y e);
    matched = λ b q g y e r. a.matched b q g y (at b q y e) r;
    single = shrink_one (claim s) d s.source.free after.free a.single a.taken either freed;
    taken = shrink_taken (claim s) d s.source.free after.free a.single a.taken either freed;
    low = shrink_low (claim s) d s.source.free after.free a.single a.taken either freed s.source.total after.total gave.total a.low;
    free = shrink_free (claim s) d s.source.free after.free a.single a.taken either freed s.source.total after.total gave.total a.low a.free;
  };
  total =
      let i = a.inside o p x is in
      let k : page_count (λ b q. is_some (claim s b q)) ≡ page_count (λ b q. is_some (d b q)) + 1
      = count_grow d (claim s) o p 1 i.0 (omega (arith, i.1))
      (λ b q n. ap is_some (off b q (λ e. n (e.0, omega (arith, e.1), omega (arith, e.1)))))
      (λ j l. let z : p + j ≡ p = omega arith in ap (λ n. is_some (d o n)) z ∙ none_is _ now)
      (λ j l. let z : p + j ≡ p = omega arith in ap (λ n. is_some (claim s o n)) z ∙ some_is _ _ was) in
      omega (arith, gave.avail);
}
  where
    h : ℕ → Homes
    h = rehome s.homes o p None

    d : ℕ → ℕ → Option ℕ
    d = λ b q. claim_of (h b q) (reserved_frame s.table b q)

    at : (b q : ℕ) (y : Home) → h b q ≡ Some y → s.homes b q ≡ Some y
    at b q y e = elim (here o p b q) [
      | inl k ↦ absurd (none_some _ y (ap₂ h k.0 k.1 ∙ rehome_here s.homes o p None) e)
      | inr k ↦ sym (rehome_there s.homes o p None b q k) ∙ e
    ]

    off : (b q : ℕ) → ((b ≡ o) × (q ≡ p) → ⊥) → d b q ≡ claim s b q
    off b q k = ap (λ y. claim_of y (reserved_frame s.table b q)) (rehome_there s.homes o p None b q k)

    now : d o p ≡ None
    now = ap₂ claim_of (rehome_here s.homes o p None) un

    was : claim s o p ≡ Some x.frame
    was = ap (λ y. claim_of y (reserved_frame s.table o p)) is

    either : (b q : ℕ) → (d b q ≡ claim s b q) ⊎ (d b q ≡ None)
    either b q = elim (here o p b q) [ inl k ↦ inr (ap₂ d k.0 k.1 ∙ now) | inr k ↦ inl (off b q k) ]

    freed : (g : ℕ) → after.free g ≡ true → (s.source.free g ≡ true) ⊎ ((b : ℕ) × (q : ℕ) × (claim s b q ≡ Some g) × (d b q ≡ None))
    freed g e = elim (cases_eq g x.frame) [
      | inl y ↦ inr (o, p, was ∙ ap (λ n. Some n) (sym y), now)
      | inr y ↦ elim (cases_lt g x.frame) [
        | inl l ↦ inl (sym (gave.free.below g l) ∙ e)
        | inr l ↦ inl (sym (gave.free.above g (omega arith)) ∙ e)
      ]
    ]

pub filling_up : FillingUp
filling_up h us r vs source a z = breaks h us r vs source source a (record { more = λ g e. inl e; avail = omega (arith, z); total = refl })

bit_zero : (b : Bool) → bit b ≡ 0 → not b ≡ true
bit_zero true z = absurd (omega arith)
bit_zero false z = refl

-- with no present page, all frames are empty
all_empty : (h : ℕ → Homes) (r : Reservation) → population h r ≡ 0 → (f : ℕ) → r.frame ≤ f → f < r.frame + 2 ^ r.order → is_empty h r f ≡ true
all_empty h r z f lo hi =
    let b : bit (is_some (h r.object (r.first + (f - r.frame)))) ≡ 0
    = omega (arith, sum_has (λ j. bit (is_some (h r.object (r.first + j)))) (f - r.frame) (2 ^ r.order) (omega arith)) in
    and_from _ _ (le-leb _ _ lo) (and_from _ _ (lt-ltb _ _ hi) (bit_zero _ b))

pub giving_back : GivingBack
giving_back h us r vs before after a z g = breaks h us r vs before after a (record {
  more = λ f e. elim (cases_lt f r.frame) [
    | inl l ↦ inl (sym (g.free.below f l) ∙ e)
    | inr l ↦ elim (cases_lt f (r.frame + 2 ^ r.order)) [
      | inl k ↦ inr (all_empty h r z f l k)
      | inr k ↦ inl (sym (g.free.above f k) ∙ e)
    ]
  ];
  avail = omega (arith, g.avail, sum_both (λ j. is_some (h r.object (r.first + j))) (2 ^ r.order));
  total = g.total;
})
