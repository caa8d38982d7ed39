use Rattle.std.proofs.Common.{Bool, cond, true, false, ◌≡◌, ℕ, ◌+◌, ◌<◌, ◌≤◌, ◌≢◌, List, [], ◌∷◌, ◌++◌, append-nil, length, length-append, take, set, get_or, length-set, get_or-set_other, sym, ap, ◌∙◌, Some, None, Option, refl, add-one, arith}
use Rattle.std.proofs.Math.Seq.{take-suc-set}
use Rattle.std.specs.List.{range_with_len, filter}
use Rattle.std.proofs.lemmas.List.Sums.{length-filter, count_by-le-length}
use Rattle.std.proofs.lemmas.List.{map-id}
use Rattle.std.proofs.lemmas.List.FromFn.{length-range_with_len, filter_of_map_range_with_len_more}
use Rattle.mapping.specs.Leaves.{Leaves, Lawful}
use Rattle.mapping.specs.declared.leaf.Leaf.{Leaf}
use Rattle.manager.specs.Arguments.{is_stored, stored_below, stored_pages}

-- as many are stored as are listed, and no more than there are
pub stored_is : (at : ℕ → Option Leaf) (n : ℕ) → length (stored_pages at n) ≡ stored_below at n
stored_is at n = length-filter (λ page. is_stored (at page)) (range_with_len 0 n)

pub stored_few : (at : ℕ → Option Leaf) (n : ℕ) → stored_below at n ≤ n
stored_few at n = omega (arith, count_by-le-length (λ page. is_stored (at page)) (range_with_len 0 n), length-range_with_len 0 n)

-- the list of one page more
listed_one : (at : ℕ → Option Leaf) (n : ℕ) → stored_pages at (n + 1) ≡ stored_pages at n ++ cond (is_stored (at n)) (n ∷ []) []
listed_one at n =
    let p : ℕ → Bool = λ page. is_stored (at page) in
    ap (filter p) (sym (map-id (range_with_len 0 (n + 1))))
    ∙ filter_of_map_range_with_len_more p (λ x. x) 0 n n (omega arith)
    ∙ ap (λ xs. filter p xs ++ cond (p n) (n ∷ []) []) (map-id (range_with_len 0 n))

pub listed_more : (at : ℕ → Option Leaf) (n : ℕ) → is_stored (at n) ≡ true → stored_pages at (n + 1) ≡ stored_pages at n ++ (n ∷ [])
listed_more at n e = listed_one at n ∙ ap (λ ys. stored_pages at n ++ ys) (rw e refl)

pub listed_same : (at : ℕ → Option Leaf) (n : ℕ) → is_stored (at n) ≡ false → stored_pages at (n + 1) ≡ stored_pages at n
listed_same at n e = listed_one at n ∙ ap (λ ys. stored_pages at n ++ ys) {y = []} (rw e refl) ∙ append-nil (stored_pages at n)

pub stored_more : (at : ℕ → Option Leaf) (n : ℕ) → is_stored (at n) ≡ true → stored_below at (n + 1) ≡ stored_below at n + 1
stored_more at n e = omega (arith, stored_is at n, stored_is at (n + 1), ap length (listed_more at n e), length-append (stored_pages at n) (n ∷ []))

pub stored_same : (at : ℕ → Option Leaf) (n : ℕ) → is_stored (at n) ≡ false → stored_below at (n + 1) ≡ stored_below at n
stored_same at n e = omega (arith, stored_is at n, stored_is at (n + 1), ap length (listed_same at n e))

-- a list over `old` into whose first `count` places the stored ones of the first n pages were written, as far as it reaches
pub record Listed (at : ℕ → Option Leaf) (n : ℕ) (old xs : List ℕ) (count : ℕ) : Type 0 where
  pub few : count ≤ stored_below at n
  pub within : count ≤ length xs
  pub counted : stored_below at n ≤ length xs → count ≡ stored_below at n
  pub listed : stored_below at n ≤ length xs → take count xs ≡ stored_pages at n
  pub later : (k d : ℕ) → count ≤ k → get_or xs k d ≡ get_or old k d

-- one page more is stored and there is room for it
pub listed_put : (at : ℕ → Option Leaf) (n : ℕ) (old xs : List ℕ) (count : ℕ) → Listed at n old xs count → is_stored (at n) ≡ true → count < length xs
    → Listed at (n + 1) old (set xs count n) (count + 1)
listed_put at n old xs count h e room =
    let s = stored_more at n e in
    let k : length (set xs count n) ≡ length xs = length-set xs count n in
    record {
      few = omega (arith, s, h.few);
      within = omega (arith, k, room);
      counted = λ r. let q = h.counted (omega (arith, s, k, r)) in omega (arith, s, q);
      listed = λ r. take_put xs count n room ∙ ap (λ ys. ys ++ (n ∷ [])) (h.listed (omega (arith, s, k, r))) ∙ sym (listed_more at n e);
      later = λ j d l. let o : j ≢ count = omega arith in get_or-set_other xs count j n d o ∙ h.later j d (omega arith);
    }
  where
    take_put : (ys : List ℕ) (i a : ℕ) → i < length ys → take (i + 1) (set ys i a) ≡ take i ys ++ (a ∷ [])
    take_put ys i a l = rw add-one (take-suc-set ys i a l)

-- one page more is stored and there is none
pub listed_full : (at : ℕ → Option Leaf) (n : ℕ) (old xs : List ℕ) (count : ℕ) → Listed at n old xs count → is_stored (at n) ≡ true → length xs ≤ count
    → Listed at (n + 1) old xs count
listed_full at n old xs count h e room =
    let s = stored_more at n e in
    record {
      few = omega (arith, s, h.few);
      within = h.within;
      counted = λ r. absurd (let q = h.counted (omega (arith, s, r)) in omega (arith, s, q, r, room));
      listed = λ r. absurd (let q = h.counted (omega (arith, s, r)) in omega (arith, s, q, r, room));
      later = h.later;
    }

-- one page more is not stored
pub listed_skip : (at : ℕ → Option Leaf) (n : ℕ) (old xs : List ℕ) (count : ℕ) → Listed at n old xs count → is_stored (at n) ≡ false
    → Listed at (n + 1) old xs count
listed_skip at n old xs count h e =
    let s = stored_same at n e in
    record {
      few = omega (arith, s, h.few);
      within = h.within;
      counted = λ r. let q = h.counted (omega (arith, s, r)) in omega (arith, s, q);
      listed = λ r. h.listed (omega (arith, s, r)) ∙ sym (listed_same at n e);
      later = h.later;
    }

-- past the last object there is no leaf
pub no_object : (sizes : List ℕ) (at : Leaves) (o p : ℕ) → ((l : Leaf) → at o p ≡ Some l → Lawful sizes at o p l) → 4 ≤ o → at o p ≡ None
no_object sizes at o p law h = go (at o p) refl
  where
    go : (x : Option Leaf) → at o p ≡ x → at o p ≡ None
    go None e = e
    go (Some l) e = absurd (omega (arith, (law l e).object))
