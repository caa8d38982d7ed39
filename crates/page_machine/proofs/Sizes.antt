-- A list of sizes, taken apart from its head on.
use Rattle.std.proofs.Common.{◌≡◌, ℕ, zero, suc, ◌<◌, ◌⊎◌, List, [], ◌∷◌, length, get_or, sym, inl, inr, arith}
use Rattle.mapping.specs.Leaves.{OneOf, Falling}

pub one_here : {k j : ℕ} (js : List ℕ) → k ≡ j → OneOf (j ∷ js) k
one_here js e = record { place = 0; there = omega arith; is = sym e }

pub one_there : {k : ℕ} {js : List ℕ} (j : ℕ) → OneOf js k → OneOf (j ∷ js) k
one_there j w = record { place = suc w.place; there = omega (arith, w.there); is = w.is }

pub one_cases : {k j : ℕ} {js : List ℕ} → OneOf (j ∷ js) k → (k ≡ j) ⊎ OneOf js k
one_cases {k} {j} {js} w = go w.place w.there w.is
  where
    go : (i : ℕ) → i < length (j ∷ js) → get_or (j ∷ js) i 0 ≡ k → (k ≡ j) ⊎ OneOf js k
    go zero t e = inl (sym e)
    go (suc i) t e = inr (record { place = i; there = omega arith; is = e })

-- every later size is smaller
abbrev pub Falls : List ℕ → Type 0
Falls [] = Unit {0}
Falls (k ∷ ks) = ((j : ℕ) → OneOf ks j → j < k) × Falls ks

falls_each : (ks : List ℕ) → ((i j : ℕ) → i < j → j < length ks → get_or ks j 0 < get_or ks i 0) → Falls ks
falls_each [] f = tt
falls_each (k ∷ ks) f = (
  (λ j w. let z : get_or ks w.place 0 < k = f 0 (suc w.place) (omega arith) (omega (arith, w.there)) in omega (arith, w.is)),
  falls_each ks (λ i j l t. f (suc i) (suc j) (omega arith) (omega arith)),
)

pub falls : (ks : List ℕ) → Falling ks → Falls ks
falls ks s = falls_each ks s.falls
