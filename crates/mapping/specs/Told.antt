use Rattle.std.specs.Prelude.{◌≡◌, ℕ, ◌<◌, cond, ◌&&◌, Some, None, Option, ◌≢◌, nat_lt}
use Rattle.std.proofs.Common.{inl, inr}
use Rattle.std.proofs.lemmas.Bool.{cases_lt, cond-true, cond-false, lt-ltb, le-ltb, and_from, and_left, and_right}
use Rattle.mapping.specs.declared.leaf.Leaf.{Leaf}

-- a page has one leaf, or none
pub none_some : (l : Leaf) (x : Option Leaf) → x ≡ None → x ≢ Some l
none_some l x a b = cc

pub some_is : (l m : Leaf) → Some l ≡ Some m → l ≡ m
some_is l m e = cc

-- what is told of a page in range, and of one that is not
pub told_in : (x : Option Leaf) (o p : ℕ) → o < 4 → p < 1024 → cond (nat_lt o 4 && nat_lt p 1024) x None ≡ x
told_in x o p a b = cond-true _ _ _ (and_from _ _ (lt-ltb o 4 a) (lt-ltb p 1024 b))

pub told_out : (x : Option Leaf) (o p : ℕ) → ((o < 4) × (p < 1024) → ⊥) → cond (nat_lt o 4 && nat_lt p 1024) x None ≡ None
told_out x o p out =
    elim (cases_lt o 4) [
      | inr g ↦ cond-false _ _ _ (and_left _ _ (le-ltb o 4 g))
      | inl a ↦ elim (cases_lt p 1024) [ inl b ↦ absurd (out (a, b)) | inr g ↦ cond-false _ _ _ (and_right _ _ (le-ltb p 1024 g)) ]
    ]
