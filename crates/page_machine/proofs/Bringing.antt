-- Bringing in keeps the invariant, and refuses exactly at the limit.
use Rattle.std.proofs.Common.{◌≡◌, ℕ, zero, suc, ◌+◌, ◌-◌, ◌*◌, ◌/◌, ◌%◌, ◌^◌, ◌<◌, ◌≤◌, Bool, true, false, not, List, [], ◌∷◌, ◌++◌, length, is_some, Some, None, Option, sym, refl, ap, ◌∙◌, subst, ap₂, inl, inr, arith}
use native.Mathlib.Nat.{mul-mod_left}
use lib.Pow.{split}
use Rattle.std.proofs.lemmas.Bool.{cases_Bool, and_cases, cond-true, cond-false, both_ways}
use Rattle.frames.specs.Source.{Source, Took}
use Rattle.mapping.specs.Leaves.{OneOf}
use Rattle.page_machine.specs.Counting.{sum, page_count, bit}
use Rattle.page_machine.specs.Leaves.{Home, home, Homes, Together}
use Rattle.page_machine.specs.Pieces.{every}
use Rattle.page_machine.specs.Reservations.{Reservation, Table, covers, matching, reserved_frame, population, empty_count, empty_blocks}
use Rattle.page_machine.specs.Claims.{Places, places, claim_of, claim, present, limit, Apart, rehome, GiveAll}
use Rattle.page_machine.specs.ClaimLaws.{Keeps}
use Rattle.page_machine.specs.Placement.{Placing, in_frame, nowhere, settled, Search, pass, miss, find, Base, got, break, full, covered, newly, based}
use Rattle.page_machine.specs.Invariant.{Each, Alive, Sound}
use Rattle.page_machine.specs.PlacementLaws.{Outcome, Brought, BringingIn}
use Rattle.page_machine.proofs.Sums.{sum_same, sum_zero, sum_has, pages_more}
use Rattle.page_machine.proofs.Sizes.{one_here, one_there}
use Rattle.page_machine.proofs.Claiming.{held, holding, reserved_yes, reserved_no, middle_yes}
use Rattle.page_machine.proofs.Keeping.{rehome_here, rehome_there, here, marks, youngest, reserves, breaks, filling_up, bases}
use Rattle.page_machine.proofs.Giving.{returned, present_low, present_all}
use Rattle.page_machine.proofs.Tiling.{all_each}
use Rattle.page_machine.proofs.Canonical.{within_block}
use Rattle.page_machine.proofs.Blocks.{small}
use Rattle.page_machine.proofs.Options.{none_some}

-- every reservation of a table

pub each_middle : (P : Reservation → Type 0) (us : Table) (r : Reservation) (vs : Table) → Each P (us ++ r ∷ vs) → P r × Each P (us ++ vs)
each_middle P [] r vs e = e
each_middle P (u ∷ us) r vs e = let i = each_middle P us r vs e.1 in (i.0, (e.0, i.1))

each_push : (P : Reservation → Type 0) (us : Table) (r : Reservation) → Each P us → P r → Each P (us ++ r ∷ [])
each_push P [] r e p = (p, tt)
each_push P (u ∷ us) r e p = (e.0, each_push P us r e.1 p)

pub each_map : (P Q : Reservation → Type 0) (rs : Table) → ((r : Reservation) → P r → Q r) → Each P rs → Each Q rs
each_map P Q [] f e = tt
each_map P Q (r ∷ rs) f e = (f r e.0, each_map P Q rs f e.1)

pub middle_length : (us : Table) (r : Reservation) (vs : Table) → length (us ++ r ∷ vs) ≡ length (us ++ vs) + 1
middle_length [] r vs = omega arith
middle_length (u ∷ us) r vs = let i = middle_length us r vs in omega arith

push_length : (us : Table) (r : Reservation) → length (us ++ r ∷ []) ≡ length us + 1
push_length [] r = omega arith
push_length (u ∷ us) r = let i = push_length us r in omega arith

-- a page outside a reservation changes neither its population nor its empty frames

population_same : (h : ℕ → Homes) (o p : ℕ) (x : Option Home) (r : Reservation) → covers r o p ≡ false → population (rehome h o p x) r ≡ population h r
population_same h o p x r n = sum_same _ _ (2 ^ r.order) (λ j l. ap (λ y. bit (is_some y))
    (rehome_there h o p x r.object (r.first + j) (λ e.
    both_ways _ n (holding r o p (record { object = sym e.0; from = omega (arith, e.1); below = omega (arith, e.1) })))))

empties_same : (h : ℕ → Homes) (o p : ℕ) (x : Option Home) (r : Reservation) → covers r o p ≡ false → empty_count (rehome h o p x) r ≡ empty_count h r
empties_same h o p x r n = sum_same _ _ (2 ^ r.order) (λ j l. ap (λ y. bit (not (is_some y)))
    (rehome_there h o p x r.object (r.first + j) (λ e.
    both_ways _ n (holding r o p (record { object = sym e.0; from = omega (arith, e.1); below = omega (arith, e.1) })))))

-- the same reservation under other homes
pub alive_with : {sizes : List ℕ} {size : ℕ → ℕ} {h g : ℕ → Homes} (r : Reservation) → Alive sizes size h r → 0 < population g r → 0 < empty_count g r → Alive sizes size g r
alive_with r a used room = record { sized = a.sized; large = a.large; pages = a.pages; frames = a.frames; within = a.within; used = used; room = room }

-- a page that no reservation covers comes in or goes
pub alive_rehome : (sizes : List ℕ) (size : ℕ → ℕ) (h : ℕ → Homes) (o p : ℕ) (x : Option Home) (rs : Table) → reserved_frame rs o p ≡ None →
    Each (Alive sizes size h) rs → Each (Alive sizes size (rehome h o p x)) rs
alive_rehome sizes size h o p x [] n e = tt
alive_rehome sizes size h o p x (r ∷ rs) n e = elim (cases_Bool (covers r o p)) [
  | inl y ↦ absurd (none_some _ _ n (reserved_yes r rs o p y))
  | inr y ↦ (
    alive_with r e.0 (rw (population_same h o p x r y) e.0.used) (rw (empties_same h o p x r y) e.0.room),
    alive_rehome sizes size h o p x rs (sym (reserved_no r rs o p y) ∙ n) e.1,
  )
]

-- a page below the size of its object comes in
below_rehome : (size : ℕ → ℕ) (h : ℕ → Homes) (o p : ℕ) (x : Home) → p < size o → ((b q : ℕ) (y : Home) → h b q ≡ Some y → q < size b) →
    (b q : ℕ) (y : Home) → rehome h o p (Some x) b q ≡ Some y → q < size b
below_rehome size h o p x low old b q y e = elim (here o p b q) [
  | inl k ↦ let z : size b ≡ size o = ap size k.0 in omega (arith, k.1)
  | inr k ↦ old b q y (sym (rehome_there h o p (Some x) b q k) ∙ e)
]

-- counts

present_more : (s t : Places) (o p : ℕ) (x : Home) → o < 4 → p < 1024 → s.homes o p ≡ None → t.homes ≡ rehome s.homes o p (Some x) → present t ≡ present s + 1
present_more s t o p x ho hp away e =
    ap (λ (h : ℕ → Homes). page_count (λ b q. is_some (h b q))) e
    ∙ pages_more (λ b q. is_some (s.homes b q)) (λ b q. is_some (rehome s.homes o p (Some x) b q)) o p ho hp
    (λ b q n. ap is_some (sym (rehome_there s.homes o p (Some x) b q n))) (ap is_some away) (ap is_some (rehome_here s.homes o p (Some x)))

-- a frame was found, so there was room
found : (m : Bool) (s t : Places) (o p f : ℕ) → o < 4 → p < 1024 → s.homes o p ≡ None → limit t ≡ limit s →
    t.homes ≡ rehome s.homes o p (Some (home f m)) → Outcome m s o p (in_frame f) t
found m s t o p f ho hp away e h = (h, omega (arith, present_low t, present_more s t o p _ ho hp away h))

pub retable : (s : Places) (rs : Table) → s.table ≡ rs → s ≡ places s.homes rs s.source
retable s rs e = λ i. places s.homes (e i) s.source

some_empty : (t : ℕ → Bool) (a n : ℕ) → every t a n ≡ false → 0 < sum (λ j. bit (not (t (a + j)))) n
unfolding sum every
some_empty t a zero e = absurd (both_ways true e refl)
some_empty t a (suc n) e = elim (and_cases (t (a + n)) (every t a n) e) [
  | inl x ↦ omega (arith, ap (λ b. bit (not b)) x)
  | inr x ↦ omega (arith, some_empty t a n x)
]

none_empty : (t : ℕ → Bool) (a n : ℕ) → every t a n ≡ true → sum (λ j. bit (not (t (a + j)))) n ≡ 0
none_empty t a n e = sum_zero _ n (λ j l. ap (λ b. bit (not b)) (all_each t a n e j l))

-- what a search that found has found
pub record Found (sizes : List ℕ) (s : Places) (size o p : ℕ) (r : Reservation) (after : Source) : Type 0 where
  pub object : r.object ≡ o
  pub within : r.first + 2 ^ r.order ≤ size
  pub covers_it : covers r o p ≡ true
  pub clear : (b q : ℕ) → covers r b q ≡ true → claim s b q ≡ None
  pub sized : OneOf sizes r.order
  pub large : 0 < r.order
  pub pages : r.first % 2 ^ r.order ≡ 0
  pub frames : r.frame % 2 ^ r.order ≡ 0
  pub took : Took s.source r.order after r.frame r.order

later : {sizes : List ℕ} {s : Places} {size o p : ℕ} {r : Reservation} {after : Source} (k : ℕ) → Found sizes s size o p r after → Found (k ∷ sizes) s size o p r after
later k f = record {
  object = f.object;
  within = f.within;
  covers_it = f.covers_it;
  clear = f.clear;
  sized = one_there k f.sized;
  large = f.large;
  pages = f.pages;
  frames = f.frames;
  took = f.took;
}

pub search_found : {s : Places} {size o p : ℕ} {ks : List ℕ} {r : Reservation} {after : Source} → Search s size o p ks (Some r) after → Found ks s size o p r after
search_found (pass {k = k} n rest) = later k (search_found rest)
search_found (miss {k = k} t n rest) = later k (search_found rest)
search_found {s} {size} {o} {p} (find {k = k} {f = f} {ks = ks} {after = u} t given) =
    let r : Reservation = record { object = o; first = p / 2 ^ k * 2 ^ k; order = k; frame = f } in
    record {
      object = refl;
      within = t.within;
      covers_it = holding r o p (record { object = refl; from = omega (arith, split p k); below = omega (arith, split p k, small p k) });
      clear = λ b q y.
          let h = held r b q y in
          let e : Together k q p = sym (within_block p q k (p / 2 ^ k * 2 ^ k) refl h.from h.below) in
          ap (λ c. claim s c q) h.object ∙ ap₂ claim_of (t.away q e) (t.uncovered q e);
      sized = one_here ks refl;
      large = t.large;
      pages = mul-mod_left (p / 2 ^ k) (2 ^ k);
      frames = given.block.aligned;
      took = given.took;
    }

module _ (sizes : List ℕ) (size : ℕ → ℕ) (m : Bool) (o p : ℕ) (ho : o < 4) (hp : p < 1024) (low : p < size o) where
  -- one reservation broken
  pub broken : (s : Places) (r : Reservation) (rs : Table) (u : Source) → Sound sizes size s → s.table ≡ r ∷ rs →
      GiveAll s.source (empty_blocks s.homes r) u →
      Keeps s (places s.homes rs u) × Each (Alive sizes size s.homes) (r ∷ rs) × (u.avail ≡ s.source.avail + empty_count s.homes r)
  broken s r rs u so e give =
      let al : Each (Alive sizes size s.homes) (r ∷ rs) = subst (λ (ts : Table). Each (Alive sizes size s.homes) ts) e so.alive in
      let ap' = subst (λ (t : Places). Apart t) (retable s (r ∷ rs) e) so.apart in
      let g = returned s.homes r al.0.frames give in
      let k = breaks s.homes [] r rs s.source u ap' g in
      (subst (λ (t : Places). Keeps t (places s.homes rs u)) (sym (retable s (r ∷ rs) e)) k, al, g.avail)

  less : (r : Reservation) (rs : Table) → reserved_frame (r ∷ rs) o p ≡ None → reserved_frame rs o p ≡ None
  less r rs n = elim (cases_Bool (covers r o p)) [
    | inl y ↦ absurd (none_some _ _ n (reserved_yes r rs o p y))
    | inr y ↦ sym (reserved_no r rs o p y) ∙ n
  ]

  -- with frames available, no refusal
  lift : (s n t : Places) (x : Placing) → n.homes ≡ s.homes → limit n ≡ limit s → 0 < n.source.avail → Outcome m n o p x t → Outcome m s o p x t
  lift s n t (nowhere d) h e room q = absurd (omega (arith, q.1, present_low n))
  lift s n t (in_frame f) h e room q = (
    q.0 ∙ ap (λ g. rehome g o p (Some (home f m))) h,
    omega (arith, q.1, ap (λ (g : ℕ → Homes). page_count (λ b c. is_some (g b c))) h),
  )

  base : {s t : Places} {x : Placing} → Base m o p s x t → Sound sizes size s → s.homes o p ≡ None → reserved_frame s.table o p ≡ None → Brought sizes size m s o p x t
  base (got {s = s} {f = f} {after = u} given) so away un =
      let k = bases s o p f m u so.apart ho hp (ap₂ claim_of away un) given.took in
      record {
        sound = record {
          apart = k.apart;
          alive = alive_rehome sizes size s.homes o p _ s.table un so.alive;
          few = so.few;
          small = so.small;
          below = below_rehome size s.homes o p (home f m) low so.below;
        };
        total = k.total;
        outcome = found m s (places (rehome s.homes o p (Some (home f m))) s.table u) o p f ho hp away k.total refl;
      }
  base (break {s = s} {t = t} {x = x} {after = u} r rs e dry give rest) so away un =
      let b = broken s r rs u so e give in
      let mid : Places = places s.homes rs u in
      let un' : reserved_frame rs o p ≡ None = less r rs (sym (ap (λ (ts : Table). reserved_frame ts o p) e) ∙ un) in
      let fewer : length s.table ≡ suc (length rs) = ap (λ (ts : Table). length ts) e in
      let i = base rest (record { apart = b.0.apart; alive = b.1.1; few = omega (arith, so.few); small = so.small; below = so.below }) away un' in
      record {
        sound = i.sound;
        total = i.total ∙ b.0.total;
        outcome = lift s mid t x refl b.0.total (omega (arith, b.1.0.room, b.2)) i.outcome;
      }
  base (full {s = s} e dry) so away un =
      record { sound = so; total = refl; outcome = (refl, omega (arith, present_all s e, dry.dry refl), e, dry.depth) }

  -- a covered page
  module _ (h₀ : ℕ → Homes) (src : Source) (us : Table) (r : Reservation) (vs : Table)
      (a : Apart (places h₀ (us ++ r ∷ vs) src)) (al : Each (Alive sizes size h₀) (us ++ vs)) (few : length (us ++ vs) < 64)
      (sm : (b : ℕ) → size b ≤ 1024) (be : (b q : ℕ) (y : Home) → h₀ b q ≡ Some y → q < size b)
      (sized : OneOf sizes r.order) (large : 0 < r.order) (pg : r.first % 2 ^ r.order ≡ 0) (fr : r.frame % 2 ^ r.order ≡ 0)
      (within : r.first + 2 ^ r.order ≤ size r.object) (y : covers r o p ≡ true) (away : h₀ o p ≡ None) where
    abbrev before : Places
    before = places h₀ (us ++ r ∷ vs) src

    abbrev h : ℕ → Homes
    h = rehome h₀ o p (Some (home (matching r p) m))

    abbrev full_now : Bool
    full_now = every (λ q. is_some (h r.object q)) r.first (2 ^ r.order)

    my : (reserved_frame (us ++ r ∷ vs) o p ≡ Some (matching r p)) × (reserved_frame (us ++ vs) o p ≡ None)
    my = middle_yes r o p us vs a.table y

    marked : Keeps before (places h (us ++ r ∷ vs) src)
    marked = marks before o p (matching r p) m a away my.0

    others : Each (Alive sizes size h) (us ++ vs)
    others = alive_rehome sizes size h₀ o p _ (us ++ vs) my.1 al

    used_now : 0 < population h r
    used_now =
        let w = held r o p y in
        let z : r.first + (p - r.first) ≡ p = omega arith in
        let one : bit (is_some (h r.object (r.first + (p - r.first)))) ≡ 1
        = ap₂ (λ c q. bit (is_some (h c q))) (sym w.object) z ∙ ap (λ x. bit (is_some x)) (rehome_here h₀ o p _) in
        omega (arith, sum_has (λ j. bit (is_some (h r.object (r.first + j)))) (p - r.first) (2 ^ r.order) (omega arith))

    done_with : (ts : Table) → Keeps (places h (us ++ r ∷ vs) src) (places h ts src) → Each (Alive sizes size h) ts → length ts ≤ 64 →
        Brought sizes size m before o p (in_frame (matching r p)) (places h ts src)
    done_with ts k e n = record {
      sound = record { apart = k.apart; alive = e; few = n; small = sm; below = below_rehome size h₀ o p (home (matching r p) m) low be };
      total = k.total ∙ marked.total;
      outcome = found m before (places h ts src) o p (matching r p) ho hp away (k.total ∙ marked.total) refl;
    }

    settle : Brought sizes size m before o p (in_frame (matching r p)) (settled m before us r vs o p)
    settle = elim (cases_Bool full_now) [
      | inl x ↦ subst (λ (ts : Table). Brought sizes size m before o p (in_frame (matching r p)) (places h ts src)) (sym (cond-true full_now _ _ x))
          (done_with (us ++ vs) (filling_up h us r vs src marked.apart (none_empty _ _ _ x)) others (omega arith))
      | inr x ↦ subst (λ (ts : Table). Brought sizes size m before o p (in_frame (matching r p)) (places h ts src)) (sym (cond-false full_now _ _ x))
          (done_with ((us ++ vs) ++ r ∷ []) (youngest h us r vs src marked.apart)
          (each_push (Alive sizes size h) (us ++ vs) r others
          (record { sized = sized; large = large; pages = pg; frames = fr; within = within; used = used_now; room = some_empty _ _ _ x }))
          (omega (arith, push_length (us ++ vs) r)))
    ]

again : (sizes : List ℕ) (size : ℕ → ℕ) (m : Bool) (s n t : Places) (o p f : ℕ) → n.homes ≡ s.homes → limit n ≡ limit s →
    Brought sizes size m n o p (in_frame f) t → Brought sizes size m s o p (in_frame f) t
again sizes size m s n t o p f h e q = record {
  sound = q.sound;
  total = q.total ∙ e;
  outcome = (
    q.outcome.0 ∙ ap (λ g. rehome g o p (Some (home f m))) h,
    omega (arith, q.outcome.1, ap (λ (g : ℕ → Homes). page_count (λ b c. is_some (g b c))) h),
  );
}

append_nil : (us : Table) → us ++ [] ≡ us
append_nil [] = refl
append_nil (u ∷ us) = ap (λ ts. u ∷ ts) (append_nil us)

pub bringing_in : BringingIn
bringing_in sizes size m o p s t x so ho hp away (based un tried rest) = base sizes size m o p ho (omega (arith, so.small o)) hp rest so away un
bringing_in sizes size m o p s t x so ho hp away (covered us r vs e y) =
    let parts = each_middle (Alive sizes size s.homes) us r vs (subst (λ (ts : Table). Each (Alive sizes size s.homes) ts) e so.alive) in
    let long : length s.table ≡ length (us ++ r ∷ vs) = ap (λ (ts : Table). length ts) e in
    again sizes size m s _ _ o p (matching r p) refl (ap limit (sym (retable s (us ++ r ∷ vs) e)))
    (settle sizes size m o p ho (omega (arith, so.small o)) hp s.homes s.source us r vs
    (subst (λ (z : Places). Apart z) (retable s (us ++ r ∷ vs) e) so.apart)
    parts.1 (omega (arith, so.few, middle_length us r vs)) so.small so.below
    parts.0.sized parts.0.large parts.0.pages parts.0.frames parts.0.within y away)
bringing_in sizes size m o p s t x so ho hp away (newly {r = r} {after = u} un few search) =
    let f = search_found search in
    let k = reserves s r u so.apart (omega (arith, f.object)) (omega (arith, f.within, so.small o)) f.clear f.took in
    let same : size r.object ≡ size o = ap size f.object in
    again sizes size m s _ _ o p (matching r p) refl k.total
    (settle sizes size m o p ho (omega (arith, so.small o)) hp s.homes u s.table r [] k.apart
    (subst (λ (ts : Table). Each (Alive sizes size s.homes) ts) (sym (append_nil s.table)) so.alive)
    (subst (λ (ts : Table). length ts < 64) (sym (append_nil s.table)) few) so.small so.below
    f.sized f.large f.pages f.frames (omega (arith, f.within)) f.covers_it away)
