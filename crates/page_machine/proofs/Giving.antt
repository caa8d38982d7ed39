-- Blocks given back one after the other, the empty frames of a reservation among them; breaking; and the counts.
use Rattle.std.proofs.Common.{◌≡◌, ℕ, ◌+◌, ◌-◌, ◌*◌, ◌/◌, ◌%◌, ◌^◌, ◌<◌, ◌≤◌, Bool, true, false, not, ◌&&◌, ltb, leb, ◌⊎◌, List, [], ◌∷◌, is_some, Some, None, Option, sym, refl, ap, ◌∙◌, subst, inl, inr, arith}
use native.Mathlib.Nat.{mul-mod_left}
use lib.Pow.{split, high}
use Rattle.std.proofs.lemmas.Bool.{cases_eq, cases_lt, and_parts, leb-true, ltb-true, le-leb, lt-ltb, false≢true}
use Rattle.frames.specs.Source.{Source}
use Rattle.page_machine.specs.Counting.{page_count, bit}
use Rattle.page_machine.specs.Leaves.{Home, Homes}
use Rattle.page_machine.specs.Pieces.{Piece, start_of, Within}
use Rattle.page_machine.specs.PieceLaws.{numbers, Among, Rising}
use Rattle.page_machine.specs.Reservations.{Reservation, Table, reserved_frame, is_empty, empty_count, empty_blocks, empty_of_all}
use Rattle.page_machine.specs.Claims.{Places, places, claim_of, claims, present, Apart, GiveAll, none, more}
use Rattle.page_machine.specs.ClaimLaws.{Breaking, EmptyBlocksTile, CountsAddUp}
use Rattle.page_machine.proofs.Sums.{sum_same, sum_le}
use Rattle.page_machine.proofs.Keeping.{Returned, breaks, unclaimed}
use Rattle.page_machine.proofs.Tiling.{pieces_tile}
use Rattle.page_machine.proofs.Canonical.{within_block}

-- what lies in no piece lies before or after it
pub outside : (g k i : ℕ) → (g / 2 ^ k ≡ i → ⊥) → (g < i * 2 ^ k) ⊎ (i * 2 ^ k + 2 ^ k ≤ g)
outside g k i n = elim (cases_lt g (i * 2 ^ k)) [
  | inl x ↦ inl x
  | inr x ↦ elim (cases_lt g (i * 2 ^ k + 2 ^ k)) [
    | inl y ↦ absurd (n (let z : i * 2 ^ k + (g - i * 2 ^ k) ≡ g = omega arith in ap (λ c. c / 2 ^ k) (sym z) ∙ high i k (omega arith)))
    | inr y ↦ inr y
  ]
]

pub give_more : {s : Source} {bs : List Piece} {u : Source} → GiveAll s bs u → (g : ℕ) → u.free g ≡ true → (s.free g ≡ true) ⊎ ((b : Piece) × Among bs b × Within b g)
give_more none g e = inl e
give_more (more {s = s} {t = t} {b = b} gave rest) g e = elim (give_more rest g e) [
  | inl x ↦ elim (cases_eq (g / 2 ^ b.order) b.index) [
    | inl y ↦ inr (b, inl refl, y)
    | inr y ↦ elim (outside g b.order b.index y) [
      | inl z ↦ inl (sym (gave.free.below g z) ∙ x)
      | inr z ↦ inl (sym (gave.free.above g z) ∙ x)
    ]
  ]
  | inr x ↦ inr (x.0, inr x.1, x.2)
]

pub give_avail : {s : Source} {bs : List Piece} {u : Source} → GiveAll s bs u → u.avail ≡ s.avail + numbers bs
give_avail none = omega arith
give_avail (more gave rest) = omega (arith, give_avail rest, gave.avail)

pub give_total : {s : Source} {bs : List Piece} {u : Source} → GiveAll s bs u → u.total ≡ s.total
give_total none = refl
give_total (more gave rest) = give_total rest ∙ gave.total

module _ (h : ℕ → Homes) (r : Reservation) (a : r.frame % 2 ^ r.order ≡ 0) where
  start : r.frame / 2 ^ r.order * 2 ^ r.order ≡ r.frame
  start = omega (arith, split r.frame r.order)

  empty_at : (j : ℕ) → j < 2 ^ r.order → is_empty h r (r.frame / 2 ^ r.order * 2 ^ r.order + j) ≡ not (is_some (h r.object (r.first + j)))
  empty_at j l =
      let z : r.frame / 2 ^ r.order * 2 ^ r.order + j ≡ r.frame + j = omega (arith, start) in
      let y : r.frame + j - r.frame ≡ j = omega arith in
      ap (is_empty h r) z
      ∙ ap (λ x. x && (ltb (r.frame + j) (r.frame + 2 ^ r.order) && not (is_some (h r.object (r.first + (r.frame + j - r.frame)))))) (le-leb _ _ (omega arith))
      ∙ ap (λ x. x && not (is_some (h r.object (r.first + (r.frame + j - r.frame))))) (lt-ltb _ _ (omega arith))
      ∙ ap (λ n. not (is_some (h r.object (r.first + n)))) y

  -- the empty blocks given back are the empty frames
  pub returned : {s u : Source} → GiveAll s (empty_blocks h r) u → Returned s u (is_empty h r) (empty_count h r)
  returned give =
      let t = pieces_tile (is_empty h r) r.order (r.frame / 2 ^ r.order) in
      record {
        more = λ g e. elim (give_more give g e) [ inl x ↦ inl x | inr x ↦ inr (t.pass x.0 g x.1 x.2).0 ];
        avail = omega (arith, give_avail give, t.size, sum_same _ _ (2 ^ r.order) (λ j l. ap bit (empty_at j l)));
        total = give_total give;
      }

rising_le : (a : ℕ) (bs : List Piece) (e : ℕ) → Rising a bs e → a ≤ e
rising_le a [] e r = r
rising_le a (b ∷ bs) e r = omega (arith, r.0, rising_le (start_of b + 2 ^ b.order) bs e r.1)

rising_end : (a : ℕ) (bs : List Piece) (e : ℕ) (b : Piece) → Rising a bs e → Among bs b → start_of b + 2 ^ b.order ≤ e
rising_end a [] e b r i = absurd i
rising_end a (x ∷ bs) e b r (inl i) = subst (λ (c : Piece). start_of c + 2 ^ c.order ≤ e) i (rising_le (start_of x + 2 ^ x.order) bs e r.1)
rising_end a (x ∷ bs) e b r (inr i) = rising_end (start_of x + 2 ^ x.order) bs e b r.1 i

pub empty_blocks_tile : EmptyBlocksTile
empty_blocks_tile h r k =
    let t = pieces_tile (is_empty h r) r.order (r.frame / 2 ^ r.order) in
    let at : r.frame / 2 ^ r.order * 2 ^ r.order ≡ r.frame = start h r k.aligned in
    record {
      block = λ b i. record {
        small = omega (arith, t.small b i, k.small);
        aligned = mul-mod_left b.index (2 ^ b.order);
        within = omega (arith, rising_end _ (empty_blocks h r) _ b t.rising i, k.within);
      };
      pass = λ b f i w. (t.pass b f i w).0;
      cover = λ f e.
          let u = and_parts (leb r.frame f) _ e in
          let v = and_parts (ltb f (r.frame + 2 ^ r.order)) _ u.1 in
          t.cover f (sym (within_block r.frame f r.order r.frame (sym at) (leb-true _ _ u.0) (ltb-true _ _ v.0))) e;
      count = t.size ∙ sum_same _ _ (2 ^ r.order) (λ j l. ap bit (empty_at h r k.aligned j l));
      rising = subst (λ (n : ℕ). Rising n (empty_blocks h r) (n + 2 ^ r.order)) at t.rising;
    }

pub breaking : Breaking
breaking h us r vs before after a aligned give = breaks h us r vs before after a (returned h r aligned give)

-- counts

present_claims : (x : Option Home) (y : Option ℕ) → bit (is_some x) ≤ bit (is_some (claim_of x y))
present_claims None y = omega arith
present_claims (Some x) y = omega arith

pub present_low : (s : Places) → present s ≤ claims s
unfolding page_count
present_low s = sum_le _ _ 4 (λ o _. sum_le _ _ 1024 (λ p _. present_claims (s.homes o p) (reserved_frame s.table o p)))

pub present_all : (s : Places) → s.table ≡ [] → present s ≡ claims s
unfolding reserved_frame
present_all s e =
    ap (λ (t : ℕ → ℕ → Bool). page_count t)
    (λ i o p. sym (ap (λ rs. is_some (claim_of (s.homes o p) (reserved_frame rs o p))) e ∙ unclaimed (s.homes o p)) i)

count : (h : ℕ → Homes) (rs : Table) (src : Source) → Apart (places h rs src) → claims (places h rs src) ≡ present (places h rs src) + empty_of_all h rs
count h [] src a = omega (arith, present_all (places h [] src) refl)
count h (r ∷ rs) src a =
    let u : Source = record { total = src.total; free = λ _. false; avail = src.avail + empty_count h r; depth = src.depth } in
    let k = breaks h [] r rs src u a (record { more = λ g e. absurd (false≢true e); avail = refl; total = refl }) in
    omega (arith, k.total, count h rs u k.apart)

pub counts_add_up : CountsAddUp
counts_add_up s a = omega (arith, count s.homes s.table s.source a)
