-- The state of the page machine: what the manager's calls mean to a caller who does not care about frames.
use Rattle.std.specs.Prelude.{ℕ, Bool, true, false, cond, ◌&&◌, List, replicate, ◌==◌, nat_lt}
use Rattle.page_machine.specs.Counting.{page_count}

-- a page is absent, or present with its words and its stored mark
pub data Page : Type 0 where
  absent : Page
  present : List ℕ → Bool → Page

abbrev pub is_present : Page → Bool
is_present absent = false
is_present (present words stored) = true

abbrev pub is_stored : Page → Bool
is_stored absent = false
is_stored (present words stored) = stored

-- the words of a page (W), the number of frames (N) and the limit are fixed at start; the size of an object is 0 while it is
-- closed; objects and pages are told by their numbers
pub record Machine : Type 0 where
  pub words : ℕ
  pub frames : ℕ
  pub limit : ℕ
  pub size : ℕ → ℕ
  pub page : ℕ → ℕ → Page

-- after start: all objects closed, no page present
abbrev pub started : ℕ → ℕ → ℕ → Machine
started words frames limit = record { words = words; frames = frames; limit = limit; size = λ _. 0; page = λ _ _. absent }

abbrev pub is_open : Machine → ℕ → Bool
is_open m o = nat_lt 0 (m.size o)

-- how many pages are present, over all objects
unfoldable pub present_count : Machine → ℕ
present_count m = page_count (λ o p. is_present (m.page o p))

-- the words of a page that was just brought in
abbrev pub zeros : Machine → List ℕ
zeros m = replicate m.words 0

-- m, but the page p of object o is x
abbrev pub with_page : Machine → ℕ → ℕ → Page → Machine
with_page m o p x =
    record {
      words = m.words;
      frames = m.frames;
      limit = m.limit;
      size = m.size;
      page = λ b q. cond (b == o && q == p) x (m.page b q);
    }

-- m, but every page of object o is as f says
abbrev pub with_pages : Machine → ℕ → (ℕ → Page) → Machine
with_pages m o f =
    record {
      words = m.words;
      frames = m.frames;
      limit = m.limit;
      size = m.size;
      page = λ b q. cond (b == o) (f q) (m.page b q);
    }

-- m, but object o has the size n and no page
abbrev pub with_object : Machine → ℕ → ℕ → Machine
with_object m o n =
    record {
      words = m.words;
      frames = m.frames;
      limit = m.limit;
      size = λ b. cond (b == o) n (m.size b);
      page = λ b q. cond (b == o) absent (m.page b q);
    }
