-- Giving back what passes a test in a block, by its halves: what code that goes the same way cites.
use Rattle.std.proofs.Common.{◌≡◌, ℕ, zero, suc, ◌+◌, ◌*◌, ◌/◌, ◌^◌, ◌<◌, Bool, true, false, cond, ◌&&◌, List, [], ◌∷◌, ◌++◌, sym, refl, ap, ◌∙◌, ap₂, inl, inr, arith}
use lib.Pow.{high}
use Rattle.std.proofs.lemmas.Bool.{cases_eq, cases_Bool, cond-true, cond-false, both_ways}
use Rattle.frames.specs.Source.{Source, Gave}
use Rattle.page_machine.specs.Pieces.{Piece, start_of, Within, pieces, every}
use Rattle.page_machine.specs.PieceLaws.{Among}
use Rattle.page_machine.specs.Claims.{GiveAll, none, more}
use Rattle.page_machine.specs.Giving.{Ready}
use Rattle.page_machine.proofs.Tiling.{pieces_tile, all_each, each_all, up, passes}
use Rattle.page_machine.proofs.Giving.{outside, give_total}

pub give_append : {s u v : Source} {xs ys : List Piece} → GiveAll s xs u → GiveAll u ys v → GiveAll s (xs ++ ys) v
give_append none r = r
give_append (more g l) r = more g (give_append l r)

pub give_one : {s u : Source} {b : Piece} → Gave s (start_of b) b.order u → GiveAll s (b ∷ []) u
give_one g = more g none

pub give_kept : {s u : Source} {bs : List Piece} → GiveAll s bs u → (g : ℕ) → ((b : Piece) → Among bs b → Within b g → ⊥) → u.free g ≡ s.free g
give_kept none g n = refl
give_kept (more {b = b} gave rest) g n =
    give_kept rest g (λ c a. n c (inr a))
    ∙ elim (outside g b.order b.index (n b (inl refl))) [ inl z ↦ gave.free.below g z | inr z ↦ gave.free.above g z ]

pub all_same : (t u : ℕ → Bool) (a n : ℕ) → ((j : ℕ) → j < n → t (a + j) ≡ u (a + j)) → every t a n ≡ every u a n
unfolding every
all_same t u a zero e = refl
all_same t u a (suc n) e = ap₂ ◌&&◌ (e n (omega arith)) (all_same t u a n (λ j l. e j (omega arith)))

pub all_not : (t : ℕ → Bool) (a n j : ℕ) → j < n → t (a + j) ≡ false → every t a n ≡ false
all_not t a n j l e = elim (cases_Bool (every t a n)) [ inl x ↦ absurd (both_ways _ e (all_each t a n x j l)) | inr x ↦ x ]

pub all_none : (t : ℕ → Bool) (a : ℕ) → every t a 0 ≡ true
unfolding every
all_none t a = refl

pub all_more : (t : ℕ → Bool) (a n : ℕ) → every t a n ≡ true → t (a + n) ≡ true → every t a (n + 1) ≡ true
all_more t a n e h = each_all t a (n + 1) (λ j l. elim (cases_eq j n) [ inl x ↦ rw x h | inr x ↦ all_each t a n e j (omega arith) ])

pub pieces_same : (t u : ℕ → Bool) (k i : ℕ) → ((f : ℕ) → f / 2 ^ k ≡ i → t f ≡ u f) → pieces t k i ≡ pieces u k i
unfolding pieces
pieces_same t u zero i e = ap (λ b. cond b (record { order = 0; index = i } ∷ []) []) (e i (omega arith))
pieces_same t u (suc k) i e =
    let a = all_same t u (i * 2 ^ suc k) (2 ^ suc k) (λ j l. e (i * 2 ^ suc k + j) (high i (suc k) l)) in
    let l = pieces_same t u k (i + i) (λ f x. e f (up f k i (inl x))) in
    let r = pieces_same t u k (i + i + 1) (λ f x. e f (up f k i (inr x))) in
    λ n. cond (a n) (record { order = suc k; index = i } ∷ []) (l n ++ r n)

pub pieces_whole : (t : ℕ → Bool) (k i : ℕ) → every t (i * 2 ^ k) (2 ^ k) ≡ true → pieces t k i ≡ record { order = k; index = i } ∷ []
unfolding pieces
pieces_whole t zero i a = cond-true (t i) _ _ (passes t 0 i a i (omega arith))
pieces_whole t (suc k) i a = cond-true _ _ _ a

pub pieces_none : (t : ℕ → Bool) (i : ℕ) → every t (i * 2 ^ 0) (2 ^ 0) ≡ false → pieces t 0 i ≡ []
unfolding pieces
pieces_none t i a = elim (cases_Bool (t i)) [
  | inl x ↦ absurd (both_ways _ a (each_all t (i * 2 ^ 0) (2 ^ 0) (λ j l. let z : i * 2 ^ 0 + j ≡ i = omega arith in ap t z ∙ x)))
  | inr x ↦ cond-false (t i) _ _ x
]

pub pieces_halves : (t : ℕ → Bool) (k i : ℕ) → every t (i * 2 ^ suc k) (2 ^ suc k) ≡ false → pieces t (suc k) i ≡ pieces t k (i + i) ++ pieces t k (i + i + 1)
unfolding pieces
pieces_halves t k i a = cond-false _ _ _ a

pub ready_first : (s : Source) (t : ℕ → Bool) (k i : ℕ) → Ready s t (suc k) i → Ready s t k (i + i)
ready_first s t k i r = record { taken = λ f e. r.taken f (up f k i (inl e)); low = λ f e. r.low f (up f k i (inl e)) }

pub ready_next : (s u : Source) (t : ℕ → Bool) (k i : ℕ) → Ready s t (suc k) i → GiveAll s (pieces t k (i + i)) u → Ready u t k (i + i + 1)
ready_next s u t k i r g = record {
  taken = λ f e x y.
      let same = give_kept g f (λ b a z. let w : f / 2 ^ k ≡ i + i = ((pieces_tile t k (i + i)).pass b f a z).1 in absurd (omega arith)) in
      r.taken f (up f k i (inr e)) x (sym same ∙ y);
  low = λ f e x. omega (arith, give_total g, r.low f (up f k i (inr e)) x);
}
