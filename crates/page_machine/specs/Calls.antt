-- Calls and replies as plain data. The enums of a manager's code are mapped to these.
use Rattle.std.specs.Prelude.{ℕ, List}

pub data Call : Type 0 where
  -- object, size
  Open : ℕ → ℕ → Call
  -- object, page, word
  Load : ℕ → ℕ → ℕ → Call
  -- object, page, word, value
  Store : ℕ → ℕ → ℕ → ℕ → Call
  -- object, page
  Release : ℕ → ℕ → Call
  -- object, the caller's list
  Flush : ℕ → List ℕ → Call
  -- object
  Close : ℕ → Call

pub data Reply : Type 0 where
  -- accepted, and nothing beyond that
  done : Reply
  -- the word that was loaded
  word : ℕ → Reply
  -- the count of a flush and the whole list after it
  flushed : ℕ → List ℕ → Reply
  -- refused by this number
  refused : ℕ → Reply
  -- refused by 11, with object and page. The depth of the none is the source's and not told here
  no_frame : ℕ → ℕ → Reply
  -- a flush refused by this number, and the whole list after it
  unflushed : ℕ → List ℕ → Reply
