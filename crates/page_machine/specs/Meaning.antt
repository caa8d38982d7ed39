-- The page machine that places stand for: where pages lie does not show in it.
use Rattle.std.specs.Prelude.{ℕ, cond, List, Some, None, Option, ◌==◌}
use Rattle.page_machine.specs.Machine.{Page, absent, present, Machine}
use Rattle.page_machine.specs.Leaves.{Home}
use Rattle.page_machine.specs.Claims.{Places, limit}

-- the words of each frame
abbrev pub Memory : Type 0
Memory = ℕ → List ℕ

-- memory, but the frame f has these words
abbrev pub written : Memory → ℕ → List ℕ → Memory
written memory f ws g = cond (g == f) ws (memory g)

-- a page is present where it has a home, with the words of its frame
abbrev pub page_of : Memory → Option Home → Page
page_of memory None = absent
page_of memory (Some x) = present (memory x.frame) x.stored

-- with W words a page, N frames and the sizes of the objects
abbrev pub machine_of : ℕ → ℕ → (ℕ → ℕ) → Places → Memory → Machine
machine_of words frames size s memory =
    record {
      words = words;
      frames = frames;
      limit = limit s;
      size = size;
      page = λ o p. page_of memory (s.homes o p);
    }
