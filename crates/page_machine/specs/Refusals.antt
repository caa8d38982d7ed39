-- The table of refusals: for each call its rows, in the order in which they count.
use Rattle.std.specs.Prelude.{ℕ, zero, suc, ◌*◌, ◌^◌, Bool, cond, not, ◌&&◌, ◌||◌, List, [], ◌∷◌, ◌++◌, length, Some, None, Option, ◌==◌, nat_le, nat_lt}
use Rattle.page_machine.specs.Machine.{Page, Machine, is_present, is_stored, is_open, present_count}
use Rattle.page_machine.specs.Calls.{Call, Open, Load, Store, Release, Flush, Close, Reply, refused, no_frame, unflushed}

-- a number, and whether its condition holds
pub record Row : Type 0 where
  pub number : ℕ
  pub holds : Bool

abbrev pub row : ℕ → Bool → Row
row n b = record { number = n; holds = b }

-- whether n is one of 2 ^ 0 .. 2 ^ k
abbrev pub is_power : ℕ → ℕ → Bool
is_power n zero = n == 1
is_power n (suc k) = n == 2 ^ suc k || is_power n k

-- the numbers of the stored pages among the first n, rising
unfoldable pub stored_below : (ℕ → Page) → ℕ → List ℕ
stored_below f zero = []
stored_below f (suc n) = stored_below f n ++ cond (is_stored (f n)) (n ∷ []) []

abbrev pub stored_pages : Machine → ℕ → List ℕ
stored_pages m o = stored_below (m.page o) (m.size o)

-- as many pages as the limit are present
abbrev pub full : Machine → Bool
full m = nat_le m.limit (present_count m)

abbrev pub bad_words : ℕ → Row
bad_words words = row 1 (not (is_power words 11))

abbrev pub bad_memory : ℕ → ℕ → ℕ → Row
bad_memory words frames length = row 2 (not (length == frames * words))

abbrev pub bad_object : ℕ → Row
bad_object o = row 3 (nat_lt 3 o)

abbrev pub bad_size : ℕ → Row
bad_size n = row 4 (n == 0 || nat_lt 1024 n)

abbrev pub already_open : Machine → ℕ → Row
already_open m o = row 5 (is_open m o)

abbrev pub not_open : Machine → ℕ → Row
not_open m o = row 6 (not (is_open m o))

abbrev pub past_size : Machine → ℕ → ℕ → Row
past_size m o p = row 7 (nat_le (m.size o) p)

abbrev pub past_words : Machine → ℕ → Row
past_words m k = row 8 (nat_le m.words k)

abbrev pub is_absent : Machine → ℕ → ℕ → Row
is_absent m o p = row 9 (not (is_present (m.page o p)))

abbrev pub short_list : Machine → ℕ → List ℕ → Row
short_list m o list = row 10 (nat_lt (length list) (length (stored_pages m o)))

abbrev pub no_room : Machine → ℕ → ℕ → Row
no_room m o p = row 11 (not (is_present (m.page o p)) && full m)

-- the rows of a start with W, N and a frame memory of this length
abbrev pub start_rows : ℕ → ℕ → ℕ → List Row
start_rows words frames length = bad_words words ∷ bad_memory words frames length ∷ []

-- the rows of each call; a load and a store have one more above these, bad_memory, that speaks of the frame memory alone
abbrev pub rows : Machine → Call → List Row
rows m (Open o n) = bad_object o ∷ bad_size n ∷ already_open m o ∷ []
rows m (Load o p k) = bad_object o ∷ not_open m o ∷ past_size m o p ∷ past_words m k ∷ no_room m o p ∷ []
rows m (Store o p k x) = bad_object o ∷ not_open m o ∷ past_size m o p ∷ past_words m k ∷ no_room m o p ∷ []
rows m (Release o p) = bad_object o ∷ not_open m o ∷ past_size m o p ∷ is_absent m o p ∷ []
rows m (Flush o list) = bad_object o ∷ not_open m o ∷ short_list m o list ∷ []
rows m (Close o) = bad_object o ∷ not_open m o ∷ []

-- and with a frame memory of this length, which a load and a store are handed
abbrev pub handed_rows : Machine → ℕ → Call → List Row
handed_rows m length (Open o n) = rows m (Open o n)
handed_rows m length (Load o p k) = bad_memory m.words m.frames length ∷ rows m (Load o p k)
handed_rows m length (Store o p k x) = bad_memory m.words m.frames length ∷ rows m (Store o p k x)
handed_rows m length (Release o p) = rows m (Release o p)
handed_rows m length (Flush o list) = rows m (Flush o list)
handed_rows m length (Close o) = rows m (Close o)

-- the rows of a question about a page: its leaf, its reservation
abbrev pub question_rows : Machine → ℕ → ℕ → List Row
question_rows m o p = bad_object o ∷ not_open m o ∷ past_size m o p ∷ []

-- the upper row counts
abbrev pub first_of : List Row → Option ℕ
first_of [] = None
first_of (r ∷ rs) = cond r.holds (Some r.number) (first_of rs)

-- how a refusal is told: 11 with object and page, and a flush with its list as it was
abbrev pub refusal : Call → ℕ → Reply
refusal (Open o n) number = refused number
refusal (Load o p k) number = cond (number == 11) (no_frame o p) (refused number)
refusal (Store o p k x) number = cond (number == 11) (no_frame o p) (refused number)
refusal (Release o p) number = refused number
refusal (Flush o list) number = unflushed number list
refusal (Close o) number = refused number
