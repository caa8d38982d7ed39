-- Worked refusals: for each pair of neighbouring rows of a call a case in which both hold, and which of them counts.
-- (10 cannot hold together with the row above it: an object that is not open has no stored page.)
use Rattle.std.specs.Prelude.{◌≡◌, ℕ, true, cond, List, [], ◌∷◌, Some}
use Rattle.page_machine.specs.Machine.{Machine, started, with_object, with_page, present}
use Rattle.page_machine.specs.Calls.{Call, Open, Load, Store, Release, Flush, Close, Reply, refused, no_frame, unflushed}
use Rattle.page_machine.specs.Refusals.{Row, start_rows, handed_rows, question_rows, first_of}
use Rattle.page_machine.specs.Steps.{handed, start, not_new}

-- the numbers of the rows that hold
abbrev pub holding : List Row → List ℕ
holding [] = []
holding (r ∷ rs) = cond r.holds (r.number ∷ holding rs) (holding rs)

-- the rows that hold of a call with a frame memory of `length` words, and what it is replied
pub record Case : Type 0 where
  pub hold : List ℕ
  pub reply : Reply

abbrev pub case : Machine → ℕ → Call → Case
case m length c = record { hold = holding (handed_rows m length c); reply = (handed m length c).reply }

abbrev pub shows : List ℕ → Reply → Case
shows hold reply = record { hold = hold; reply = reply }

-- W = 2, N = 16, so 32 words of frame memory; limit 1, reached; object 0 of 5 pages has page 1, stored; object 1 is closed
abbrev pub at_limit : Machine
at_limit = with_page (with_object (started 2 16 1) 0 5) 0 1 (present (7 ∷ 0 ∷ []) true)

pub record StartOrder : Type 0 where
  pub words : holding (start_rows 3 16 1) ≡ 1 ∷ 2 ∷ []
  pub words_counts : start 3 16 16 1 ≡ not_new 1
  pub memory : holding (start_rows 2 16 1) ≡ 2 ∷ []
  pub memory_counts : start 2 16 16 1 ≡ not_new 2

pub record OpenOrder : Type 0 where
  pub object : case at_limit 32 (Open 4 0) ≡ shows (3 ∷ 4 ∷ []) (refused 3)
  pub size : case at_limit 32 (Open 0 0) ≡ shows (4 ∷ 5 ∷ []) (refused 4)
  pub large : case at_limit 32 (Open 0 1025) ≡ shows (4 ∷ 5 ∷ []) (refused 4)
  pub already : case at_limit 32 (Open 0 1024) ≡ shows (5 ∷ []) (refused 5)

pub record LoadOrder : Type 0 where
  pub memory : case at_limit 31 (Load 4 9 9) ≡ shows (2 ∷ 3 ∷ 6 ∷ 7 ∷ 8 ∷ 11 ∷ []) (refused 2)
  pub object : case at_limit 32 (Load 4 9 9) ≡ shows (3 ∷ 6 ∷ 7 ∷ 8 ∷ 11 ∷ []) (refused 3)
  pub closed : case at_limit 32 (Load 1 9 9) ≡ shows (6 ∷ 7 ∷ 8 ∷ 11 ∷ []) (refused 6)
  pub page : case at_limit 32 (Load 0 5 9) ≡ shows (7 ∷ 8 ∷ 11 ∷ []) (refused 7)
  pub word : case at_limit 32 (Load 0 0 2) ≡ shows (8 ∷ 11 ∷ []) (refused 8)
  pub frame : case at_limit 32 (Load 0 0 1) ≡ shows (11 ∷ []) (no_frame 0 0)

pub record StoreOrder : Type 0 where
  pub memory : case at_limit 31 (Store 4 9 9 1) ≡ shows (2 ∷ 3 ∷ 6 ∷ 7 ∷ 8 ∷ 11 ∷ []) (refused 2)
  pub object : case at_limit 32 (Store 4 9 9 1) ≡ shows (3 ∷ 6 ∷ 7 ∷ 8 ∷ 11 ∷ []) (refused 3)
  pub closed : case at_limit 32 (Store 1 9 9 1) ≡ shows (6 ∷ 7 ∷ 8 ∷ 11 ∷ []) (refused 6)
  pub page : case at_limit 32 (Store 0 5 9 1) ≡ shows (7 ∷ 8 ∷ 11 ∷ []) (refused 7)
  pub word : case at_limit 32 (Store 0 0 2 1) ≡ shows (8 ∷ 11 ∷ []) (refused 8)
  pub frame : case at_limit 32 (Store 0 0 1 1) ≡ shows (11 ∷ []) (no_frame 0 0)

pub record ReleaseOrder : Type 0 where
  pub object : case at_limit 32 (Release 4 9) ≡ shows (3 ∷ 6 ∷ 7 ∷ 9 ∷ []) (refused 3)
  pub closed : case at_limit 32 (Release 1 9) ≡ shows (6 ∷ 7 ∷ 9 ∷ []) (refused 6)
  pub page : case at_limit 32 (Release 0 5) ≡ shows (7 ∷ 9 ∷ []) (refused 7)
  pub away : case at_limit 32 (Release 0 0) ≡ shows (9 ∷ []) (refused 9)

pub record FlushOrder : Type 0 where
  pub object : case at_limit 32 (Flush 4 []) ≡ shows (3 ∷ 6 ∷ []) (unflushed 3 [])
  pub closed : case at_limit 32 (Flush 1 []) ≡ shows (6 ∷ []) (unflushed 6 [])
  pub list : case at_limit 32 (Flush 0 []) ≡ shows (10 ∷ []) (unflushed 10 [])

pub record CloseOrder : Type 0 where
  pub object : case at_limit 32 (Close 4) ≡ shows (3 ∷ 6 ∷ []) (refused 3)
  pub closed : case at_limit 32 (Close 1) ≡ shows (6 ∷ []) (refused 6)

pub record QuestionOrder : Type 0 where
  pub object : holding (question_rows at_limit 4 9) ≡ 3 ∷ 6 ∷ 7 ∷ []
  pub object_counts : first_of (question_rows at_limit 4 9) ≡ Some 3
  pub closed : holding (question_rows at_limit 1 9) ≡ 6 ∷ 7 ∷ []
  pub closed_counts : first_of (question_rows at_limit 1 9) ≡ Some 6
