use Rattle.std.proofs.Common.{◌≡◌, ℕ, ◌+◌, ◌-◌, ◌^◌, ◌<◌, ◌≤◌, Bool, true, false, ◌||◌, Ok, Err, Result, sym, refl, ap, ◌∙◌, ⊎_elim, arith, MatchResult}
use Rattle.std.proofs.Math.Bool.{or-true, or-false}
use Rattle.std.proofs.lemmas.Nat.{pow_pos}
use Rattle.std.proofs.lemmas.Bool.{cases_eq, cases_lt, cases_Bool, both_ways}
use Rattle.blocks.specs.declared.block.Block.{Block}
use Rattle.blocks.specs.declared.number.FrameNumber.{FrameNumber}
use Rattle.frames.specs.declared.refusal.TakeError.{TakeError}
use Rattle.frames.specs.declared.refusal.TakeError.TheVariants.{BadOrder, NoBlock}
use Rattle.frames.specs.declared.refusal.GiveError.{GiveError}
use Rattle.frames.specs.Source.{Source, Lawful, tally, Took, Takes, Gives}
use Rattle.frames.specs.Laws.{free_count, FreeBlock, Without}
use Rattle.frames.specs.Tally.{tally_joined}
use Rattle.frames.specs.Lists.{tally_more}

pub took_within : (s : Source) (k : ℕ) (t : Source) (first size : ℕ) → Lawful s → Took s k t first size → first + 2 ^ k ≤ s.total
took_within s k t first size l h =
    let p = pow_pos k in
    let m = l.within (first + (2 ^ k - 1)) (h.free.is (first + (2 ^ k - 1)) (omega arith) (omega arith)) in
    omega arith

pub took_count : (s : Source) (k : ℕ) (t : Source) (first size : ℕ) → Lawful s → Took s k t first size → free_count t + 2 ^ k ≡ free_count s
took_count s k t first size l h =
    let e = tally_joined t.free s.free first (2 ^ k) s.total h.free (took_within s k t first size l h) in
    ap (λ (n : ℕ). tally t.free n + 2 ^ k) h.total ∙ sym e

pub takes_count : (s : Source) (k : ℕ) (t : Source) (r : Result (Block FrameNumber) TakeError) → Lawful s → Takes s k t r
    → MatchResult r (λ _. free_count t + 2 ^ k ≡ free_count s) (λ _. free_count t ≡ free_count s)
takes_count s k t (Ok b) l h = took_count s k t b.block.first b.block.order l h
takes_count s k t (Err BadOrder) l h = ap free_count h.2
takes_count s k t (Err (NoBlock d)) l h = ap free_count h.same

pub gives_count : (s : Source) (b : Block FrameNumber) (t : Source) (r : Result (Unit {0}) GiveError) → Gives s b t r
    → MatchResult r (λ _. free_count t ≡ free_count s + 2 ^ b.block.order) (λ _. free_count t ≡ free_count s)
gives_count s b t (Ok _) h =
    ap (tally t.free) h.total ∙ tally_joined s.free t.free b.block.first (2 ^ b.block.order) s.total h.free h.within
gives_count s b t (Err e) h = ap free_count h.same

-- the frames of a block that was given were free
pub took_free : (s : Source) (k : ℕ) (t : Source) (b : Block FrameNumber) → Took s k t b.block.first b.block.order → FreeBlock s b
took_free s k t b h f i = let p = ap (λ (x : ℕ). 2 ^ x) h.order in h.free.is f i.0 (omega (arith, i.1, p))

-- and what is free still was free
pub took_fewer : (s : Source) (k : ℕ) (t : Source) (first size : ℕ) → Took s k t first size → (f : ℕ) → t.free f ≡ true → s.free f ≡ true
took_fewer s k t first size h f e =
    ⊎_elim (λ (l : f < first). h.free.below f l ∙ e)
    (λ (g : first ≤ f).
    ⊎_elim (λ (l : f < first + 2 ^ k). h.free.is f g l) (λ (u : first + 2 ^ k ≤ f). h.free.above f u ∙ e) (cases_lt f (first + 2 ^ k)))
    (cases_lt f first)

-- a single frame more was taken
pub without_more : (s t u : Source) (p q : ℕ → Bool) (x size : ℕ) → Without s t p → Took t 0 u x size
    → q x ≡ true → ((f : ℕ) → (f ≡ x → ⊥) → q f ≡ p f) → Without s u q
without_more s t u p q x size w h here others =
    record {
      total = h.total ∙ w.total;
      whole = λ f.
          ⊎_elim
          (λ (e : f ≡ x). w.whole f ∙ ap (λ (b : Bool). b || p f) (h.free.is f (omega arith) (omega arith)) ∙ sym (or-true (u.free f)) ∙ ap (λ (b : Bool). u.free f || b) (sym (ap q e ∙ here)))
          (λ (n : f ≡ x → ⊥). w.whole f ∙ ap (λ (b : Bool). b || p f) (same f n) ∙ ap (λ (b : Bool). u.free f || b) (sym (others f n)))
          (cases_eq f x);
      apart = λ f e.
          ⊎_elim
          (λ (d : f ≡ x). h.free.was f (omega arith) (omega arith))
          (λ (n : f ≡ x → ⊥). sym (same f n) ∙ w.apart f (sym (others f n) ∙ e))
          (cases_eq f x);
    }
  where
    same : (f : ℕ) → (f ≡ x → ⊥) → t.free f ≡ u.free f
    same f n = ⊎_elim (λ (l : f < x). h.free.below f l) (λ (g : x ≤ f). h.free.above f (⊎_elim (λ (e : f ≡ x). absurd (n e)) (λ o. omega arith) (cases_eq f x))) (cases_lt f x)

pub without_tally : (s t u : Source) (p q : ℕ → Bool) (x size : ℕ) → Lawful t → Without s t p → Took t 0 u x size
    → q x ≡ true → ((f : ℕ) → (f ≡ x → ⊥) → q f ≡ p f) → tally q s.total ≡ tally p s.total + 1
without_tally s t u p q x size l w h here others =
    let r = took_within t 0 u x size l h in
    let free = h.free.is x (omega arith) (omega arith) in
    let was : p x ≡ false = ⊎_elim (λ (e : p x ≡ true). absurd (both_ways (t.free x) (w.apart x e) free)) (λ e. e) (cases_Bool (p x)) in
    tally_more p q x s.total (omega (arith, r, w.total)) was here others

pub nothing_taken : (s : Source) (p : ℕ → Bool) → ((f : ℕ) → p f ≡ false) → Without s s p
nothing_taken s p h =
    record {
      total = refl;
      whole = λ f. sym (or-false (s.free f)) ∙ ap (λ (b : Bool). s.free f || b) (sym (h f));
      apart = λ f e. absurd (both_ways (p f) (h f) e);
    }
