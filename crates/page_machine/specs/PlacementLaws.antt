-- What placement keeps: what each call comes to under the invariant.
use Rattle.std.specs.Prelude.{◌≡◌, ℕ, ◌<◌, ◌≤◌, Bool, true, cond, List, [], Some, None, ◌==◌}
use Rattle.frames.specs.Source.{Source}
use Rattle.page_machine.specs.Leaves.{home, Homes}
use Rattle.page_machine.specs.Claims.{Places, places, present, limit, rehome}
use Rattle.page_machine.specs.Placement.{Placing, in_frame, nowhere, Bring, Release, Close, stored, flushed}
use Rattle.page_machine.specs.Invariant.{Sound}

-- a page is brought in exactly where fewer pages than the limit are present. Where none is, nothing was reserved, nothing
-- changed, and the depth is that of a none of order 0
abbrev pub Outcome : Bool → Places → ℕ → ℕ → Placing → Places → Type 0
Outcome mark s o p (in_frame f) t = (t.homes ≡ rehome s.homes o p (Some (home f mark))) × (present s < limit s)
Outcome mark s o p (nowhere d) t = (t ≡ s) × (present s ≡ limit s) × (s.table ≡ []) × (d ≡ s.source.depth 0)

pub record Brought (sizes : List ℕ) (size : ℕ → ℕ) (mark : Bool) (s : Places) (o p : ℕ) (x : Placing) (t : Places) : Type 0 where
  pub sound : Sound sizes size t
  pub total : limit t ≡ limit s
  pub outcome : Outcome mark s o p x t

abbrev pub BringingIn : Type 0
BringingIn =
    (sizes : List ℕ) (size : ℕ → ℕ) (mark : Bool) (o p : ℕ) (s t : Places) (x : Placing) → Sound sizes size s →
    o < 4 → p < size o → s.homes o p ≡ None → Bring sizes mark (size o) o p s x t → Brought sizes size mark s o p x t

-- the invariant holds after, for sizes that may have changed; the limit stays; and these are the homes after
pub record Moved (sizes : List ℕ) (size : ℕ → ℕ) (s : Places) (homes : ℕ → Homes) (t : Places) : Type 0 where
  pub sound : Sound sizes size t
  pub total : limit t ≡ limit s
  pub homes_are : t.homes ≡ homes

abbrev pub Releasing : Type 0
Releasing =
    (sizes : List ℕ) (size : ℕ → ℕ) (o p : ℕ) (s t : Places) → Sound sizes size s → Release o p s t →
    Moved sizes size s (rehome s.homes o p None) t

-- the size of o changed
abbrev pub resize : (ℕ → ℕ) → ℕ → ℕ → ℕ → ℕ
resize size o n b = cond (b == o) n (size b)

abbrev pub Closing : Type 0
Closing =
    (sizes : List ℕ) (size : ℕ → ℕ) (o : ℕ) (s t : Places) → Sound sizes size s → Close o (size o) s t →
    Moved sizes (resize size o 0) s (λ b q. cond (b == o) None (s.homes b q)) t

-- an open changes no place
abbrev pub Opening : Type 0
Opening =
    (sizes : List ℕ) (size : ℕ → ℕ) (o n : ℕ) (s : Places) → Sound sizes size s → size o ≡ 0 → n ≤ 1024 →
    Sound sizes (resize size o n) s

abbrev pub Storing : Type 0
Storing =
    (sizes : List ℕ) (size : ℕ → ℕ) (o p : ℕ) (s : Places) → Sound sizes size s →
    Moved sizes size s (stored o p s).homes (stored o p s)

abbrev pub Flushing : Type 0
Flushing =
    (sizes : List ℕ) (size : ℕ → ℕ) (o : ℕ) (s : Places) → Sound sizes size s →
    Moved sizes size s (flushed o s).homes (flushed o s)

-- after start: nothing present or reserved, and the limit is what is available
abbrev pub Starting : Type 0
Starting =
    (sizes : List ℕ) (source : Source) → ((f : ℕ) → source.free f ≡ true → f < source.total) →
    Sound sizes (λ _. 0) (places (λ _ _. None) [] source) × (limit (places (λ _ _. None) [] source) ≡ source.avail)
