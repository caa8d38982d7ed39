-- The numbers by which the arguments of a call are refused. Where several apply, the first counts.
use Rattle.std.specs.Prelude.{◌≡◌, ℕ, ◌*◌, Bool, false, cond, not, ◌&&◌, List, filter, count_by, Some, None, Ok, Err, Option, Result, ◌==◌, nat_le, nat_lt, is_none, is_some, slice_index_or}
use Rattle.std.specs.Int.{is_power_of_two}
use Rattle.std.specs.List.{range_with_len}
use Rattle.mapping.specs.declared.leaf.Leaf.{Leaf}
use Rattle.manager.specs.declared.refusal.Refusal.{Refusal}
use Rattle.manager.specs.Refusals.{number_of}

-- the first refusal of two
abbrev pub or_else : Option ℕ → Option ℕ → Option ℕ
or_else (Some k) later = Some k
or_else None later = later

-- refused by a number where a test holds
abbrev pub refused_if : Bool → ℕ → Option ℕ
refused_if b k = cond b (Some k) None

-- 1: the words a page are none of 1, 2, 4 .. 2,048
abbrev pub wrong_words : ℕ → Option ℕ
wrong_words words = refused_if (not (is_power_of_two words && nat_le words 2048)) 1

-- 2: the frame memory has not W words for each of N frames
abbrev pub wrong_memory : (words frames long : ℕ) → Option ℕ
wrong_memory words frames long = refused_if (not (long == frames * words)) 2

-- 1, then 2
abbrev pub wrong_start : (words frames long : ℕ) → Option ℕ
wrong_start words frames long = or_else (wrong_words words) (wrong_memory words frames long)

-- 3: no such object
abbrev pub wrong_number : ℕ → Option ℕ
wrong_number object = refused_if (nat_lt 3 object) 3

-- the size of an object, none while it is closed
abbrev pub size_in : List (Option ℕ) → ℕ → Option ℕ
size_in sizes object = slice_index_or sizes object None

-- how many pages an object has, 0 while it is closed
abbrev pub pages_in : List (Option ℕ) → ℕ → ℕ
pages_in sizes object = elim (size_in sizes object) [ None ↦ 0 | Some size ↦ size ]

-- 3, then 6: the object is not open
abbrev pub wrong_object : List (Option ℕ) → ℕ → Option ℕ
wrong_object sizes object = or_else (wrong_number object) (refused_if (is_none (size_in sizes object)) 6)

-- 3, 6, then 7: the page is not below the object's size
abbrev pub wrong_page : List (Option ℕ) → ℕ → ℕ → Option ℕ
wrong_page sizes object page = or_else (wrong_object sizes object) (refused_if (nat_le (pages_in sizes object) page) 7)

-- 3, 6, 7, then 8: the word is not below the words a page
abbrev pub wrong_word : List (Option ℕ) → ℕ → ℕ → ℕ → ℕ → Option ℕ
wrong_word sizes words object page word = or_else (wrong_page sizes object page) (refused_if (nat_le words word) 8)

-- what load and store ask: 2, then 3, 6, 7 and 8
abbrev pub wrong_access : (words frames long : ℕ) → List (Option ℕ) → (object page word : ℕ) → Option ℕ
wrong_access words frames long sizes object page word = or_else (wrong_memory words frames long) (wrong_word sizes words object page word)

-- 3, then 4: the size is 0 or above 1,024, then 5: the object is open
abbrev pub wrong_open : List (Option ℕ) → ℕ → ℕ → Option ℕ
wrong_open sizes object size =
    or_else (wrong_number object)
    (or_else (refused_if (size == 0) 4) (or_else (refused_if (nat_lt 1024 size) 4) (refused_if (is_some (size_in sizes object)) 5)))

-- whether the leaf of a page makes it stored
abbrev pub is_stored : Option Leaf → Bool
is_stored None = false
is_stored (Some l) = l.writable

-- which of an object's first pages are stored, rising, and how many
abbrev pub stored_pages : (ℕ → Option Leaf) → ℕ → List ℕ
stored_pages at n = filter (λ page. is_stored (at page)) (range_with_len 0 n)

abbrev pub stored_below : (ℕ → Option Leaf) → ℕ → ℕ
stored_below at n = count_by (λ page. is_stored (at page)) (range_with_len 0 n)

-- 3, 6, then 10: the list is shorter than the stored pages are many
abbrev pub wrong_flush : List (Option ℕ) → (ℕ → ℕ → Option Leaf) → ℕ → ℕ → Option ℕ
wrong_flush sizes at object long = or_else (wrong_object sizes object) (refused_if (nat_lt long (stored_below (at object) (pages_in sizes object))) 10)

-- an answer that is refused exactly where the arguments are wrong, by their number
abbrev pub Decides : {T : Type 0} → Option ℕ → Result T Refusal → (T → Type 0) → Type 0
Decides wrong (Ok x) P = (wrong ≡ None) × P x
Decides wrong (Err e) P = wrong ≡ Some (number_of e)

-- an answer that is refused where the arguments are wrong, by their number, and then K holds
abbrev pub TurnsDown : {T : Type 0} → Option ℕ → Result T Refusal → Type 0 → Type 0
TurnsDown wrong (Ok x) K = wrong ≡ None
TurnsDown wrong (Err e) K = (k : ℕ) → wrong ≡ Some k → (number_of e ≡ k) × K
