-- Releasing, closing, opening, storing, flushing and starting keep the invariant.
use Rattle.std.proofs.Common.{◌≡◌, ℕ, ◌+◌, ◌-◌, ◌^◌, ◌<◌, ◌≤◌, Bool, true, false, cond, not, ◌&&◌, eqb, List, [], ◌∷◌, ◌++◌, length, is_some, Some, None, Option, sym, refl, ap, ◌∙◌, subst, ap₂, inl, inr, arith}
use Rattle.std.proofs.lemmas.Bool.{and_parts, cases_eq, cases_lt, eqb-true, eqb-false, ne_eqb, cond-false}
use Rattle.frames.specs.Source.{Source, Gave}
use Rattle.page_machine.specs.Counting.{bit}
use Rattle.page_machine.specs.Leaves.{Home, Homes, mark, unmark}
use Rattle.page_machine.specs.Reservations.{Reservation, Table, covers, matching, reserved_frame, population, empty_count}
use Rattle.page_machine.specs.Claims.{Places, places, claim_of, limit, Apart, rehome}
use Rattle.page_machine.specs.ClaimLaws.{Keeps}
use Rattle.page_machine.specs.Placement.{alone, back, last, ReleaseAll, over, skip, one, stored, flushed}
use Rattle.page_machine.specs.Invariant.{Each, Alive, Sound}
use Rattle.page_machine.specs.PlacementLaws.{Moved, Releasing, resize, Closing, Opening, Storing, Flushing, Starting}
use Rattle.page_machine.proofs.Sums.{sum_same, sum_zero, sum_has, pages_none}
use Rattle.page_machine.proofs.Claiming.{held, middle_yes}
use Rattle.page_machine.proofs.Keeping.{rehome_here, rehome_there, here, unmarks, frees, giving_back, same_claims}
use Rattle.page_machine.proofs.Bringing.{each_middle, each_map, middle_length, alive_with, alive_rehome, retable}
use Rattle.page_machine.proofs.Options.{none_some, none_or}

each_insert : (P : Reservation → Type 0) (us : Table) (r : Reservation) (vs : Table) → P r → Each P (us ++ vs) → Each P (us ++ r ∷ vs)
each_insert P [] r vs p e = (p, e)
each_insert P (u ∷ us) r vs p e = (e.0, each_insert P us r vs p e.1)

-- a page that goes
below_none : (size : ℕ → ℕ) (h : ℕ → Homes) (o p : ℕ) → ((b q : ℕ) (y : Home) → h b q ≡ Some y → q < size b) →
    (b q : ℕ) (y : Home) → rehome h o p None b q ≡ Some y → q < size b
below_none size h o p old b q y e = elim (here o p b q) [
  | inl k ↦ absurd (none_some _ y (ap₂ (rehome h o p None) k.0 k.1 ∙ rehome_here h o p None) e)
  | inr k ↦ old b q y (sym (rehome_there h o p None b q k) ∙ e)
]

module _ (sizes : List ℕ) (size : ℕ → ℕ) (o p : ℕ) (s : Places) (so : Sound sizes size s) (us : Table) (r : Reservation) (vs : Table)
    (e : s.table ≡ us ++ r ∷ vs) (y : covers r o p ≡ true) where
  abbrev h : ℕ → Homes
  h = rehome s.homes o p None

  tab : Apart (places s.homes (us ++ r ∷ vs) s.source)
  tab = subst (λ (z : Places). Apart z) (retable s (us ++ r ∷ vs) e) so.apart

  my : (reserved_frame (us ++ r ∷ vs) o p ≡ Some (matching r p)) × (reserved_frame (us ++ vs) o p ≡ None)
  my = middle_yes r o p us vs tab.table y

  was : Alive sizes size s.homes r × Each (Alive sizes size s.homes) (us ++ vs)
  was = each_middle (Alive sizes size s.homes) us r vs (subst (λ (ts : Table). Each (Alive sizes size s.homes) ts) e so.alive)

  others : Each (Alive sizes size h) (us ++ vs)
  others = alive_rehome sizes size s.homes o p None (us ++ vs) my.1 was.1

  gone : Keeps s (places h s.table s.source)
  gone = unmarks s o p (matching r p) so.apart (ap (λ (ts : Table). reserved_frame ts o p) e ∙ my.0)

  room : 0 < empty_count h r
  room =
      let w = held r o p y in
      let z : r.first + (p - r.first) ≡ p = omega arith in
      let one' : bit (not (is_some (h r.object (r.first + (p - r.first))))) ≡ 1
      = ap₂ (λ c q. bit (not (is_some (h c q)))) (sym w.object) z ∙ ap (λ x. bit (not (is_some x))) (rehome_here s.homes o p None) in
      omega (arith, sum_has (λ j. bit (not (is_some (h r.object (r.first + j))))) (p - r.first) (2 ^ r.order) (omega arith))

  put_back : 0 < population h r → Moved sizes size s h (places h s.table s.source)
  put_back used = record {
    sound = record {
      apart = gone.apart;
      alive = subst (λ (ts : Table). Each (Alive sizes size h) ts) (sym e) (each_insert (Alive sizes size h) us r vs (alive_with r was.0 used room) others);
      few = so.few;
      small = so.small;
      below = below_none size s.homes o p so.below;
    };
    total = gone.total;
    homes_are = refl;
  }

  given_whole : (u : Source) → population h r ≡ 0 → Gave s.source r.frame r.order u → Moved sizes size s h (places h (us ++ vs) u)
  given_whole u z g =
      let mid : Places = places h s.table s.source in
      let a = subst (λ (w : Places). Apart w) (retable mid (us ++ r ∷ vs) e) gone.apart in
      let k = giving_back h us r vs s.source u a z g in
      let long : length s.table ≡ length (us ++ r ∷ vs) = ap (λ (ts : Table). length ts) e in
      record {
        sound = record {
          apart = k.apart;
          alive = others;
          few = omega (arith, so.few, middle_length us r vs);
          small = so.small;
          below = below_none size s.homes o p so.below;
        };
        total = k.total ∙ ap limit (sym (retable mid (us ++ r ∷ vs) e)) ∙ gone.total;
        homes_are = refl;
      }

pub releasing : Releasing
releasing sizes size o p s t so (alone {x = x} {after = u} is un g) =
    let k = frees s o p x u so.apart is un g in
    record {
      sound = record {
        apart = k.apart;
        alive = alive_rehome sizes size s.homes o p None s.table un so.alive;
        few = so.few;
        small = so.small;
        below = below_none size s.homes o p so.below;
      };
      total = k.total;
      homes_are = refl;
    }
releasing sizes size o p s t so (back us r vs is e y used) = put_back sizes size o p s so us r vs e y used
releasing sizes size o p s t so (last {after = u} us r vs is e y z g) = given_whole sizes size o p s so us r vs e y u z g

-- other objects' sizes
pub resize_other : (size : ℕ → ℕ) (o n b : ℕ) → (b ≡ o → ⊥) → resize size o n b ≡ size b
resize_other size o n b k = cond-false (eqb b o) n (size b) (ne_eqb b o k)

small_resize : (size : ℕ → ℕ) (o n : ℕ) → n ≤ 1024 → ((b : ℕ) → size b ≤ 1024) → (b : ℕ) → resize size o n b ≤ 1024
small_resize size o n l old b = at (eqb b o)
  where
    at : (t : Bool) → cond t n (size b) ≤ 1024
    at true = l
    at false = old b

-- an object without pages has no reservation, so its size may be any
module _ (sizes : List ℕ) (size : ℕ → ℕ) (o n : ℕ) (s : Places) (so : Sound sizes size s) (free : (p : ℕ) → s.homes o p ≡ None) (l : n ≤ 1024) where
  still : (r : Reservation) → Alive sizes size s.homes r → Alive sizes (resize size o n) s.homes r
  still r a = elim (cases_eq r.object o) [
    | inl e ↦ absurd (let z : population s.homes r ≡ 0 = sum_zero _ (2 ^ r.order) (λ j _. ap (λ x. bit (is_some x)) (ap (λ b. s.homes b (r.first + j)) e ∙ free (r.first + j))) in omega (arith, a.used))
    | inr e ↦
        record {
          sized = a.sized;
          large = a.large;
          pages = a.pages;
          frames = a.frames;
          within = omega (arith, a.within, resize_other size o n r.object e);
          used = a.used;
          room = a.room;
        }
  ]

  resized : Sound sizes (resize size o n) s
  resized = record {
    apart = so.apart;
    alive = each_map (Alive sizes size s.homes) (Alive sizes (resize size o n) s.homes) s.table still so.alive;
    few = so.few;
    small = small_resize size o n l so.small;
    below = λ b q x e. elim (cases_eq b o) [
      | inl k ↦ absurd (none_some _ x (ap (λ c. s.homes c q) k ∙ free q) e)
      | inr k ↦ omega (arith, so.below b q x e, resize_other size o n b k)
    ];
  }

pub opening : Opening
opening sizes size o n s so closed l =
    resized sizes size o n s so (λ p. none_or (s.homes o p) (λ y e. omega (arith, so.below o p y e))) l

-- n pages of o from p on went, and nothing else
record Emptied (sizes : List ℕ) (size : ℕ → ℕ) (o p n : ℕ) (s t : Places) : Type 0 where
  sound : Sound sizes size t
  total : limit t ≡ limit s
  gone : (q : ℕ) → p ≤ q → q < p + n → t.homes o q ≡ None
  before : (q : ℕ) → q < p → t.homes o q ≡ s.homes o q
  beyond : (q : ℕ) → p + n ≤ q → t.homes o q ≡ s.homes o q
  apart : (b q : ℕ) → (b ≡ o → ⊥) → t.homes b q ≡ s.homes b q

release_all : (sizes : List ℕ) (size : ℕ → ℕ) (o : ℕ) {p n : ℕ} {s t : Places} → ReleaseAll o p n s t → Sound sizes size s → Emptied sizes size o p n s t
release_all sizes size o over so = record {
  sound = so;
  total = refl;
  gone = λ q a b. absurd (omega arith);
  before = λ q a. refl;
  beyond = λ q a. refl;
  apart = λ b q k. refl;
}
release_all sizes size o (skip {p = p} {n = n} {s = s} {t = t} e rest) so =
    let i = release_all sizes size o rest so in
    record {
      sound = i.sound;
      total = i.total;
      gone = λ q a b. elim (cases_eq q p) [ inl k ↦ ap (t.homes o) k ∙ i.before p (omega arith) ∙ e | inr k ↦ i.gone q (omega arith) (omega arith) ];
      before = λ q a. i.before q (omega arith);
      beyond = λ q a. i.beyond q (omega arith);
      apart = i.apart;
    }
release_all sizes size o (one {p = p} {n = n} {s = s} {t = t} {u = u} is step rest) so =
    let r = releasing sizes size o p s t so step in
    let i = release_all sizes size o rest r.sound in
    let at : (b q : ℕ) → ((b ≡ o) × (q ≡ p) → ⊥) → t.homes b q ≡ s.homes b q
    = λ b q k. ap (λ (g : ℕ → Homes). g b q) r.homes_are ∙ rehome_there s.homes o p None b q k in
    let now : t.homes o p ≡ None = ap (λ (g : ℕ → Homes). g o p) r.homes_are ∙ rehome_here s.homes o p None in
    record {
      sound = i.sound;
      total = i.total ∙ r.total;
      gone = λ q a b. elim (cases_eq q p) [ inl k ↦ ap (u.homes o) k ∙ i.before p (omega arith) ∙ now | inr k ↦ i.gone q (omega arith) (omega arith) ];
      before = λ q a. i.before q (omega arith) ∙ at o q (λ k. omega (arith, k.1));
      beyond = λ q a. i.beyond q (omega arith) ∙ at o q (λ k. omega (arith, k.1));
      apart = λ b q k. i.apart b q k ∙ at b q (λ z. k z.0);
    }

pub closing : Closing
closing sizes size o s t so run = record {
  sound = resized sizes size o 0 t i.sound free (omega arith);
  total = i.total;
  homes_are = λ j b q. at b q (eqb b o) refl j;
}
  where
    i : Emptied sizes size o 0 (size o) s t
    i = release_all sizes size o run so

    free : (q : ℕ) → t.homes o q ≡ None
    free q = elim (cases_lt q (size o)) [
      | inl l ↦ i.gone q (omega arith) (omega arith)
      | inr l ↦ i.beyond q (omega arith) ∙ none_or (s.homes o q) (λ y e. omega (arith, so.below o q y e))
    ]

    at : (b q : ℕ) (k : Bool) → eqb b o ≡ k → t.homes b q ≡ cond k None (s.homes b q)
    at b q true e = ap (λ c. t.homes c q) (eqb-true b o e) ∙ free q
    at b q false e = i.apart b q (eqb-false b o e)

-- homes with the same frames

-- a home with the same frame, and none for none
abbrev SameFrame : Option Home → Option Home → Type 0
SameFrame None None = Unit {0}
SameFrame None (Some y) = ⊥
SameFrame (Some x) None = ⊥
SameFrame (Some x) (Some y) = x.frame ≡ y.frame

same_claim : (x y : Option Home) (z : Option ℕ) → SameFrame x y → claim_of x z ≡ claim_of y z
same_claim None None z e = refl
same_claim None (Some y) z e = absurd e
same_claim (Some x) None z e = absurd e
same_claim (Some x) (Some y) z e = ap (λ n. Some n) e

same_some : (x y : Option Home) → SameFrame x y → is_some x ≡ is_some y
same_some None None e = refl
same_some None (Some y) e = absurd e
same_some (Some x) None e = absurd e
same_some (Some x) (Some y) e = refl

-- the other home
same_home : (x y : Option Home) (a : Home) → SameFrame x y → x ≡ Some a → (b : Home) × (y ≡ Some b) × (a.frame ≡ b.frame)
same_home None y a e f = absurd (none_some _ a refl f)
same_home (Some x) None a e f = absurd e
same_home (Some x) (Some y) a e f = (y, refl, (let z : x ≡ a = cc in sym (ap (λ (c : Home). c.frame) z) ∙ e))

module _ (sizes : List ℕ) (size : ℕ → ℕ) (s : Places) (so : Sound sizes size s) (g : ℕ → Homes) (same : (o p : ℕ) → SameFrame (g o p) (s.homes o p)) where
  kept : Keeps s (places g s.table s.source)
  kept = same_claims s g s.table so.apart so.apart.table
      (λ o p. same_claim (g o p) (s.homes o p) (reserved_frame s.table o p) (same o p))
      (λ o p x e. let w = same_home (g o p) (s.homes o p) x (same o p) e in so.apart.inside o p w.0 w.1)
      (λ o p f x e r. let w = same_home (g o p) (s.homes o p) x (same o p) e in w.2 ∙ so.apart.matched o p f w.0 w.1 r)

  somes : (o p : ℕ) → is_some (g o p) ≡ is_some (s.homes o p)
  somes o p = same_some (g o p) (s.homes o p) (same o p)

  alike : (r : Reservation) → Alive sizes size s.homes r → Alive sizes size g r
  alike r a =
      let u : population g r ≡ population s.homes r = sum_same _ _ (2 ^ r.order) (λ j _. ap bit (somes r.object (r.first + j))) in
      let v : empty_count g r ≡ empty_count s.homes r = sum_same _ _ (2 ^ r.order) (λ j _. ap (λ b. bit (not b)) (somes r.object (r.first + j))) in
      alive_with r a (omega (arith, a.used)) (omega (arith, a.room))

  in_place : Moved sizes size s g (places g s.table s.source)
  in_place = record {
    sound = record {
      apart = kept.apart;
      alive = each_map (Alive sizes size s.homes) (Alive sizes size g) s.table alike so.alive;
      few = so.few;
      small = so.small;
      below = λ o p x e. let w = same_home (g o p) (s.homes o p) x (same o p) e in so.below o p w.0 w.1;
    };
    total = kept.total;
    homes_are = refl;
  }

same_self : (x : Option Home) → SameFrame x x
same_self None = tt
same_self (Some x) = refl

same_marked : (x : Option Home) → SameFrame (mark x) x
same_marked None = tt
same_marked (Some x) = refl

same_unmarked : (x : Option Home) → SameFrame (unmark x) x
same_unmarked None = tt
same_unmarked (Some x) = refl

pub storing : Storing
storing sizes size o p s so = in_place sizes size s so (stored o p s).homes (λ b q. at b q (eqb b o && eqb q p) refl)
  where
    at : (b q : ℕ) (k : Bool) → (eqb b o && eqb q p) ≡ k → SameFrame (cond k (mark (s.homes o p)) (s.homes b q)) (s.homes b q)
    at b q false e = same_self (s.homes b q)
    at b q true e =
        let w = and_parts (eqb b o) (eqb q p) e in
        subst (λ (x : Option Home). SameFrame (mark (s.homes o p)) x) (sym (ap₂ s.homes (eqb-true b o w.0) (eqb-true q p w.1))) (same_marked (s.homes o p))

pub flushing : Flushing
flushing sizes size o s so = in_place sizes size s so (flushed o s).homes (λ b q. at b q (eqb b o))
  where
    at : (b q : ℕ) (k : Bool) → SameFrame (cond k (unmark (s.homes b q)) (s.homes b q)) (s.homes b q)
    at b q false = same_self (s.homes b q)
    at b q true = same_unmarked (s.homes b q)

pub starting : Starting
unfolding reserved_frame
starting sizes source below = (
  record {
    apart = record {
      table = tt;
      inside = λ o p x e. absurd (none_some _ x refl e);
      matched = λ o p f x e r. absurd (none_some _ x refl e);
      single = λ o p b q f e r. absurd (none_some _ f refl e);
      taken = λ o p f e r. none_some _ f refl e;
      low = λ o p f e. absurd (none_some _ f refl e);
      free = below;
    };
    alive = tt;
    few = omega arith;
    small = λ o. omega arith;
    below = λ o p x e. absurd (none_some _ x refl e);
  },
  omega (arith, pages_none (λ _ _. false) (λ _ _. refl)),
)
