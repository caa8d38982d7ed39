-- What each call tells and leaves once it is accepted, and one step of the machine.
use Rattle.std.specs.Prelude.{ℕ, true, false, List, ◌++◌, length, drop, Some, None, Option, slice_index, slice_set}
use Rattle.page_machine.specs.Machine.{Page, absent, present, Machine, started, zeros, with_page, with_pages, with_object}
use Rattle.page_machine.specs.Calls.{Call, Open, Load, Store, Release, Flush, Close, Reply, done, word, flushed}
use Rattle.page_machine.specs.Refusals.{rows, handed_rows, start_rows, first_of, refusal, stored_pages}

pub record Step : Type 0 where
  pub reply : Reply
  pub state : Machine

abbrev pub tells : Reply → Machine → Step
tells r m = record { reply = r; state = m }

-- the words of a page once it is there
abbrev pub words_of : Machine → Page → List ℕ
words_of m absent = zeros m
words_of m (present words stored) = words

-- a page that is absent is brought in: all its words are 0, and it is unstored
abbrev pub brought_in : Machine → ℕ → ℕ → Page → Machine
brought_in m o p absent = with_page m o p (present (zeros m) false)
brought_in m o p (present words stored) = m

abbrev pub unstored : Page → Page
unstored absent = absent
unstored (present words stored) = present words false

abbrev pub opening : Machine → ℕ → ℕ → Step
opening m o n = tells done (with_object m o n)

abbrev pub loading : Machine → ℕ → ℕ → ℕ → Step
loading m o p k = tells (word (slice_index (words_of m (m.page o p)) k)) (brought_in m o p (m.page o p))

abbrev pub storing : Machine → ℕ → ℕ → ℕ → ℕ → Step
storing m o p k x = tells done (with_page m o p (present (slice_set (words_of m (m.page o p)) k x) true))

abbrev pub releasing : Machine → ℕ → ℕ → Step
releasing m o p = tells done (with_page m o p absent)

-- the stored pages go to the first places of the list, the later places stay
abbrev pub flushing : Machine → ℕ → List ℕ → Step
flushing m o list =
    let pages = stored_pages m o in
    tells (flushed (length pages) (pages ++ drop (length pages) list)) (with_pages m o (λ p. unstored (m.page o p)))

abbrev pub closing : Machine → ℕ → Step
closing m o = tells done (with_object m o 0)

abbrev pub accepted : Machine → Call → Step
accepted m (Open o n) = opening m o n
accepted m (Load o p k) = loading m o p k
accepted m (Store o p k x) = storing m o p k x
accepted m (Release o p) = releasing m o p
accepted m (Flush o list) = flushing m o list
accepted m (Close o) = closing m o

-- a refused call changes nothing
abbrev pub decided : Option ℕ → Machine → Call → Step
decided None m c = accepted m c
decided (Some number) m c = tells (refusal c number) m

-- one call, with a frame memory of the right length where it takes one
abbrev pub step : Machine → Call → Step
step m c = decided (first_of (rows m c)) m c

-- one call, with a frame memory of any length where it takes one
abbrev pub handed : Machine → ℕ → Call → Step
handed m length c = decided (first_of (handed_rows m length c)) m c

-- what a start comes to
pub data Start : Type 0 where
  new : Machine → Start
  not_new : ℕ → Start

abbrev pub start_by : Option ℕ → Machine → Start
start_by None m = new m
start_by (Some number) m = not_new number

-- a start with W, N, the available frames and a frame memory of this length
abbrev pub start : ℕ → ℕ → ℕ → ℕ → Start
start words frames available length = start_by (first_of (start_rows words frames length)) (started words frames available)
