use Rattle.std.specs.Prelude.{◌≡◌, ℕ, zero, suc, ◌+◌, ◌<◌, ◌≤◌, Bool, true, false, cond, refl}
use Rattle.std.proofs.Common.{ap, ◌∙◌, ⊎_elim, arith}
use Rattle.std.proofs.lemmas.Bool.{cases_lt}
use Rattle.frames.specs.Source.{tally, Joined}

one_le : (b : Bool) → cond b 1 0 ≤ 1
one_le true = omega arith
one_le false = omega arith

pub tally_le : (p : ℕ → Bool) (n : ℕ) → tally p n ≤ n
tally_le p zero = omega arith
tally_le p (suc n) = omega (arith, tally_le p n, one_le (p n))

-- functions that agree below n
pub tally_same : (p q : ℕ → Bool) (n : ℕ) → ((f : ℕ) → f < n → p f ≡ q f) → tally p n ≡ tally q n
tally_same p q zero h = refl
tally_same p q (suc n) h =
    let e = tally_same p q n (λ f l. h f (omega arith)) in
    let d = ap (λ (b : Bool). cond {A = ℕ} b 1 0) (h n (omega arith)) in
    omega (arith, e, d)

-- a run that joins
pub tally_run : (p q : ℕ → Bool) (i c n : ℕ) → ((f : ℕ) → f < i → q f ≡ p f) → ((f : ℕ) → i ≤ f → f < i + c → (p f ≡ false) × (q f ≡ true))
    → ((f : ℕ) → i + c ≤ f → f < n → q f ≡ p f) → i + c ≤ n → tally q n ≡ tally p n + c
tally_run p q i zero zero lo mid hi h = refl
tally_run p q i (suc c) zero lo mid hi h = absurd (omega arith)
tally_run p q i zero (suc n) lo mid hi h =
    tally_same q p (suc n) (λ f l. ⊎_elim (λ (u : f < i). lo f u) (λ (u : i ≤ f). hi f (omega arith) l) (cases_lt f i)) ∙ omega arith
tally_run p q i (suc c) (suc n) lo mid hi h =
    ⊎_elim
    (λ (u : i + c < n).
    let e = tally_run p q i (suc c) n lo mid (λ f a b. hi f a (omega arith)) (omega arith) in
    let d = ap (λ (b : Bool). cond {A = ℕ} b 1 0) (hi n (omega arith) (omega arith)) in
    omega (arith, e, d))
    (λ (u : n ≤ i + c).
    let e = tally_run p q i c n lo (λ f a b. mid f a (omega arith)) (λ f a b. absurd (omega arith)) (omega arith) in
    let x = mid n (omega arith) (omega arith) in
    let d = ap (λ (b : Bool). cond {A = ℕ} b 1 0) x.0 in
    let k = ap (λ (b : Bool). cond {A = ℕ} b 1 0) x.1 in
    omega (arith, e, d, k))
    (cases_lt (i + c) n)

pub tally_joined : (p q : ℕ → Bool) (i c n : ℕ) → Joined p q i (i + c) → i + c ≤ n → tally q n ≡ tally p n + c
tally_joined p q i c n j h = tally_run p q i c n j.below (λ f a b. (j.was f a b, j.is f a b)) (λ f a b. j.above f a) h
