-- What an accepted call tells of its arguments, row by row of its table.
use Rattle.std.proofs.Common.{◌≡◌, ℕ, ◌<◌, ◌≤◌, Bool, true, false, cond, not, ◌&&◌, eqb, ltb, List, [], ◌∷◌, Some, None, Option, refl, arith}
use Rattle.std.proofs.lemmas.Bool.{ltb-false, leb-false, eqb-false, ltb-true, not-false, or_parts}
use Rattle.page_machine.specs.Machine.{Machine, is_present}
use Rattle.page_machine.specs.Calls.{Call, Open, Load, Store, Release, Flush, Close}
use Rattle.page_machine.specs.Refusals.{Row, rows, first_of, full, bad_object, bad_size, already_open, not_open, short_list, past_size, past_words, no_room, is_absent}
use Rattle.page_machine.specs.Steps.{Step, step, decided, accepted}
use Rattle.page_machine.proofs.Options.{none_some}

pub no_row : (r : Row) (rs : List Row) → first_of (r ∷ rs) ≡ None → (r.holds ≡ false) × (first_of rs ≡ None)
no_row r rs e = go r.holds refl e
  where
    go : (b : Bool) → r.holds ≡ b → cond b (Some r.number) (first_of rs) ≡ None → (r.holds ≡ false) × (first_of rs ≡ None)
    go true h f = absurd (none_some _ _ f refl)
    go false h f = (h, f)

nonzero : (n : ℕ) → (n ≡ 0 → ⊥) → 0 < n
nonzero n h = omega arith

at_object : (o : ℕ) (rs : List Row) → first_of (bad_object o ∷ rs) ≡ None → (o < 4) × (first_of rs ≡ None)
at_object o rs e = let r = no_row (bad_object o) rs e in (omega (arith, ltb-false 3 o r.0), r.1)

at_open : (m : Machine) (o : ℕ) (rs : List Row) → first_of (not_open m o ∷ rs) ≡ None → (0 < m.size o) × (first_of rs ≡ None)
at_open m o rs e = let r = no_row (not_open m o) rs e in (ltb-true _ _ (not-false _ r.0), r.1)

at_page : (m : Machine) (o p : ℕ) (rs : List Row) → first_of (past_size m o p ∷ rs) ≡ None → (p < m.size o) × (first_of rs ≡ None)
at_page m o p rs e = let r = no_row (past_size m o p) rs e in (leb-false _ _ r.0, r.1)

-- an open that is accepted
pub record Opens (m : Machine) (o n : ℕ) : Type 0 where
  pub object : o < 4
  pub some : 0 < n
  pub most : n ≤ 1024
  pub closed : m.size o ≡ 0

pub opens : (m : Machine) (o n : ℕ) → first_of (rows m (Open o n)) ≡ None → Opens m o n
opens m o n e =
    let a = at_object o (bad_size n ∷ already_open m o ∷ []) e in
    let b = no_row (bad_size n) (already_open m o ∷ []) a.1 in
    let s = or_parts (eqb n 0) (ltb 1024 n) b.0 in
    let c = no_row (already_open m o) [] b.1 in
    record { object = a.0; some = nonzero n (eqb-false n 0 s.0); most = ltb-false 1024 n s.1; closed = omega (arith, ltb-false 0 (m.size o) c.0) }

-- a call on an object, a page or a word that is accepted
pub record Reaches (m : Machine) (o : ℕ) : Type 0 where
  pub object : o < 4
  pub opened : 0 < m.size o

pub record ReachesPage (m : Machine) (o p : ℕ) : Type 0 where
  pub object : o < 4
  pub page : p < m.size o

pub record ReachesWord (m : Machine) (o p k : ℕ) : Type 0 where
  pub object : o < 4
  pub page : p < m.size o
  pub word : k < m.words
  pub room : (not (is_present (m.page o p)) && full m) ≡ false

reaches_word : (m : Machine) (o p k : ℕ) → first_of (bad_object o ∷ not_open m o ∷ past_size m o p ∷ past_words m k ∷ no_room m o p ∷ []) ≡ None → ReachesWord m o p k
reaches_word m o p k e =
    let a = at_object o (not_open m o ∷ past_size m o p ∷ past_words m k ∷ no_room m o p ∷ []) e in
    let b = at_open m o (past_size m o p ∷ past_words m k ∷ no_room m o p ∷ []) a.1 in
    let c = at_page m o p (past_words m k ∷ no_room m o p ∷ []) b.1 in
    let d = no_row (past_words m k) (no_room m o p ∷ []) c.1 in
    let f = no_row (no_room m o p) [] d.1 in
    record { object = a.0; page = c.0; word = leb-false _ _ d.0; room = f.0 }

pub loads : (m : Machine) (o p k : ℕ) → first_of (rows m (Load o p k)) ≡ None → ReachesWord m o p k
loads m o p k e = reaches_word m o p k e

pub stores : (m : Machine) (o p k x : ℕ) → first_of (rows m (Store o p k x)) ≡ None → ReachesWord m o p k
stores m o p k x e = reaches_word m o p k e

pub releases : (m : Machine) (o p : ℕ) → first_of (rows m (Release o p)) ≡ None → ReachesPage m o p × (is_present (m.page o p) ≡ true)
releases m o p e =
    let a = at_object o (not_open m o ∷ past_size m o p ∷ is_absent m o p ∷ []) e in
    let b = at_open m o (past_size m o p ∷ is_absent m o p ∷ []) a.1 in
    let c = at_page m o p (is_absent m o p ∷ []) b.1 in
    let d = no_row (is_absent m o p) [] c.1 in
    (record { object = a.0; page = c.0 }, not-false _ d.0)

pub flushes : (m : Machine) (o : ℕ) (list : List ℕ) → first_of (rows m (Flush o list)) ≡ None → Reaches m o
flushes m o list e =
    let a = at_object o (not_open m o ∷ short_list m o list ∷ []) e in
    let b = at_open m o (short_list m o list ∷ []) a.1 in
    record { object = a.0; opened = b.0 }

pub closes : (m : Machine) (o : ℕ) → first_of (rows m (Close o)) ≡ None → Reaches m o
closes m o e =
    let a = at_object o (not_open m o ∷ []) e in
    let b = at_open m o [] a.1 in
    record { object = a.0; opened = b.0 }

-- a step is a refusal or an acceptance
pub by_step : (m : Machine) (c : Call) (P : Step → Type 0) → ((n : ℕ) → first_of (rows m c) ≡ Some n → P (decided (Some n) m c)) →
    (first_of (rows m c) ≡ None → P (accepted m c)) → P (step m c)
by_step m c P refuses accepts = go (first_of (rows m c)) refl
  where
    go : (x : Option ℕ) → first_of (rows m c) ≡ x → P (decided x m c)
    go None e = accepts e
    go (Some n) e = refuses n e
