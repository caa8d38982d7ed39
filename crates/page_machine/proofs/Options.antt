-- None and Some told apart.
use Rattle.std.proofs.Common.{◌≡◌, ℕ, Some, None, Option, refl, arith}

pub none_some : {A : Type 0} (x : Option A) (y : A) → x ≡ None → x ≡ Some y → ⊥
none_some x y a b = let z : ◌≡◌ {A = ℕ} 0 1 = cc in omega arith

pub none_or : {A : Type 0} (x : Option A) → ((y : A) → x ≡ Some y → ⊥) → x ≡ None
none_or None n = refl
none_or (Some y) n = absurd (n y refl)
