use Rattle.std.specs.Prelude.{◌≡◌, ℕ, ◌+◌, ◌≤◌, List, [], ◌∷◌, ◌++◌, length, take, drop, codes, decimal}
use Rattle.std.specs.List.{flat_map}
use Rattle.std.specs.Borrow.{MutBor}

-- the first bytes are the earlier ones and then the new; all bytes past the new end stay
pub record Adds (before : List ℕ) (end : ℕ) (new after : List ℕ) (stop : ℕ) : Type 0 where
  pub stops : stop ≡ end + length new
  pub text : take stop after ≡ take end before ++ new
  pub rest : drop stop after ≡ drop stop before

-- a buffer with so many bytes of a line, and the same buffer after a push: where the new bytes fit, they are added
pub record Pushes (before : MutBor (List ℕ)) (end : ℕ) (new : List ℕ) (after : MutBor (List ℕ)) (stop : ℕ) : Type 0 where
  pub same_reference : after.ghost_name ≡ before.ghost_name
  pub same_length : length after.now ≡ length before.now
  pub adds : end + length new ≤ length before.now → Adds before.now end new after.now stop

-- a space and the text of a number, whatever its type
abbrev pub field_by : {N : Type 0} → (N → List ℕ) → N → List ℕ
field_by text n = 32 ∷ text n

abbrev pub fields_by : {N : Type 0} → (N → List ℕ) → List N → List ℕ
fields_by text ns = flat_map (field_by text) ns

-- a space and the number in decimal
abbrev pub field : ℕ → List ℕ
field n = field_by decimal n

abbrev pub fields : List ℕ → List ℕ
fields ns = fields_by decimal ns

-- a line: its letter, each number after a space, and byte 10
unfoldable pub line : ℕ → List ℕ → List ℕ
line letter numbers = letter ∷ (fields numbers ++ (10 ∷ []))

-- the first line of a listing
unfoldable pub title : List ℕ
title = codes "superpage replay 1" ++ (10 ∷ [])
