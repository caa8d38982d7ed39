use Rattle.std.proofs.Common.{◌≡◌, ℕ, ◌+◌, ◌-◌, ◌<◌, ◌≤◌, List, length, get_or, take, drop, ap, ◌∙◌, arith}
use borrow.Rule.Slice.PartMut.{put_mid}
use lib.Seq.{length-take-le}
use Rattle.std.proofs.lemmas.List.{get_or-take, get_or-drop, get_or_append_left, get_or-append_right}

-- what stands at a place of xs, once its k items from a on are ys
pub before_part : (a k : ℕ) (xs ys : List ℕ) (i : ℕ) → a ≤ length xs → i < a → get_or (put_mid a k xs ys) i 0 ≡ get_or xs i 0
before_part a k xs ys i p q =
    get_or_append_left (take a xs) _ 0 i (omega (arith, length-take-le a xs p)) ∙ get_or-take a xs i 0 q

pub in_part : (a k : ℕ) (xs ys : List ℕ) (i : ℕ) → a ≤ length xs → a ≤ i → i < a + length ys → get_or (put_mid a k xs ys) i 0 ≡ get_or ys (i - a) 0
in_part a k xs ys i p q r =
    get_or-append_right (take a xs) _ a i 0 (length-take-le a xs p) q ∙ get_or_append_left ys _ 0 (i - a) (omega arith)

pub after_part : (a k : ℕ) (xs ys : List ℕ) (i : ℕ) → a ≤ length xs → length ys ≡ k → a + k ≤ i → get_or (put_mid a k xs ys) i 0 ≡ get_or xs i 0
after_part a k xs ys i p l q =
    get_or-append_right (take a xs) _ a i 0 (length-take-le a xs p) (omega arith)
    ∙ get_or-append_right ys _ k (i - a) 0 l (omega arith)
    ∙ get_or-drop k (drop a xs) (i - a - k) 0
    ∙ get_or-drop a xs (k + (i - a - k)) 0
    ∙ ap (λ (n : ℕ). get_or xs n 0) (omega arith)
