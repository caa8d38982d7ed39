use Rattle.std.proofs.Common.{◌≡◌, ℕ, ◌+◌, ◌-◌, ◌*◌, ◌<◌, ◌≤◌, List, ◌++◌, length, get_or, take, drop, replicate, inl, inr, ap, ◌∙◌, subst, sym, arith}
use borrow.Rule.Slice.PartMut.{put_mid, same_len_mid}
use lib.ListN.{length-take, length-drop}
use Rattle.std.proofs.Math.Seq.{take-append_seam}
use Rattle.std.proofs.lemmas.List.{get_or-replicate, get_or_past, length-replicate}
use Rattle.std.proofs.lemmas.Bool.{cases_lt}
use Rattle.std.proofs.lemmas.Grind.{get_or_default_zero}
use Rattle.blocks.proofs.Parts.{before_part, in_part, after_part}

-- what replicates 0 is 0 everywhere
pub all_zero : (ys : List ℕ) (n : ℕ) → ys ≡ replicate n 0 → (i : ℕ) → get_or ys i 0 ≡ 0
all_zero ys n e i =
    elim (cases_lt i n) [
      | inl h ↦ rw e (get_or-replicate n i 0 0 h)
      | inr h ↦ rw e (get_or_past (replicate n 0) i 0 (omega (arith, length-replicate {A = ℕ} n 0)))
    ]

-- what an index reads, at the place that the code computed
pub read_at : (xs : List ℕ) (v i j n : ℕ) → v ≡ get_or xs i v → i ≡ j → length xs ≡ n → j < n → v ≡ get_or xs j 0
read_at xs v i j n e at long h = e ∙ get_or_default_zero xs i v (omega arith) ∙ ap (λ i. get_or xs i 0) at

-- count entries from s on are low, low + step and so on; all others stay
pub record Written (xs ys : List ℕ) (s count low step : ℕ) : Type 0 where
  pub long : length ys ≡ length xs
  pub inside : (d : ℕ) → d < count → get_or ys (s + d) 0 ≡ low + d * step
  pub lower : (j : ℕ) → j < s → get_or ys j 0 ≡ get_or xs j 0
  pub upper : (j : ℕ) → s + count ≤ j → get_or ys j 0 ≡ get_or xs j 0

-- what a vector of the n entries xs, lent as zs, has once ys stand from s on and below e
abbrev pub rewritten : ℕ → ℕ → ℕ → List ℕ → List ℕ → List ℕ → List ℕ
rewritten n s e xs zs ys = take n (put_mid s (e - s) zs ys ++ drop (length (put_mid s (e - s) zs ys)) xs)

pub part_written : (n s e low step : ℕ) (xs zs ys : List ℕ) → zs ≡ xs → length xs ≡ n → s ≤ e → e ≤ n → length ys ≡ length (take (e - s) (drop s zs))
    → ((d : ℕ) → d < length ys → get_or ys d 0 ≡ low + d * step) → Written xs (rewritten n s e xs zs ys) s (e - s) low step
part_written n s e low step xs zs ys lent long a b many each =
    subst (λ zs. Written xs (rewritten n s e xs zs ys) s (e - s) low step) (sym lent)
    (subst (λ ps. Written xs ps s (e - s) low step) (sym whole) part)
  where
    count : length ys ≡ e - s
    count = omega (arith, many, ap (λ (zs : List ℕ). length (take (e - s) (drop s zs))) lent, long, length-take (e - s) (drop s xs), length-drop s xs)

    same : length (put_mid s (e - s) xs ys) ≡ length xs
    same = same_len_mid s (e - s) xs ys (many ∙ ap (λ (zs : List ℕ). length (take (e - s) (drop s zs))) lent)

    whole : rewritten n s e xs xs ys ≡ put_mid s (e - s) xs ys
    whole = subst (λ m. take m (put_mid s (e - s) xs ys ++ drop (length (put_mid s (e - s) xs ys)) xs) ≡ put_mid s (e - s) xs ys) (same ∙ long) (take-append_seam _ _)

    part : Written xs (put_mid s (e - s) xs ys) s (e - s) low step
    part =
        record {
          long = same;
          inside = λ d h.
              let q : s + d - s ≡ d = omega arith in
              in_part s (e - s) xs ys (s + d) (omega arith) (omega arith) (omega (arith, count)) ∙ ap (λ i. get_or ys i 0) q ∙ each d (omega (arith, count));
          lower = λ j h. before_part s (e - s) xs ys j (omega arith) h;
          upper = λ j h. after_part s (e - s) xs ys j (omega arith) count h;
        }

-- the same where every entry of the part becomes 0
pub part_zeroed : (n s e m : ℕ) (xs zs ys : List ℕ) → zs ≡ xs → length xs ≡ n → s ≤ e → e ≤ n → length ys ≡ length (take (e - s) (drop s zs))
    → ys ≡ replicate m 0 → Written xs (rewritten n s e xs zs ys) s (e - s) 0 0
part_zeroed n s e m xs zs ys lent long a b many zero = part_written n s e 0 0 xs zs ys lent long a b many (λ d h. all_zero ys m zero d ∙ (omega arith))
