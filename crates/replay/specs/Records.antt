use Rattle.std.specs.Prelude.{◌≡◌, ◌≢◌, ℕ, ◌+◌, List, [], ◌∷◌, ◌++◌, length, take, drop, Result, MatchResult}
use Rattle.std.specs.Int.{to_be_bytes, w16, w32}
use Rattle.blocks.specs.declared.number.ObjectPage.{ObjectPage}
use Rattle.replay.specs.declared.record.Board.{Board}
use Rattle.replay.specs.declared.record.Board.TheVariants.{Alpha, Sv39}
use Rattle.replay.specs.declared.record.UnknownBoard.{UnknownBoard}
use Rattle.replay.specs.declared.record.MachineRecord.{MachineRecord}
use Rattle.replay.specs.declared.record.CallRecord.{CallRecord}
use Rattle.replay.specs.declared.record.CallRecord.TheVariants.{Open, Load, Store, Release, Flush}
use Rattle.replay.specs.declared.record.Record.{Record}
use Rattle.replay.specs.declared.record.Record.TheVariants.{Machine, Call}

-- what the length byte of each kind of record says: the bytes of kind and fields
abbrev pub call_length : CallRecord → ℕ
call_length (Open object size) = 4
call_length (Load page word) = 6
call_length (Store page word value) = 10
call_length (Release page) = 4
call_length (Flush object) = 2

abbrev pub record_length : Record → ℕ
record_length (Machine machine) = 6
record_length (Call asked) = call_length asked

-- the letter of each kind of call
abbrev pub call_letter : CallRecord → ℕ
call_letter (Open object size) = 79
call_letter (Load page word) = 76
call_letter (Store page word value) = 83
call_letter (Release page) = 82
call_letter (Flush object) = 70

-- the number of each board
abbrev pub board_number : Board → ℕ
board_number Alpha = 1
board_number Sv39 = 2

-- a number is read as the board that has it, and refused where no board has it
abbrev pub NamesBoard : ℕ → Result Board UnknownBoard → Type 0
NamesBoard number r = MatchResult r (λ b. board_number b ≡ number) (λ _. (b : Board) → board_number b ≢ number)

-- the bytes of kind and fields, each number with its highest byte first
abbrev pub page_bytes : ObjectPage → List ℕ
page_bytes page = page.object ∷ to_be_bytes w16 page.number.0

abbrev pub call_bytes : CallRecord → List ℕ
call_bytes (Open object size) = 79 ∷ object ∷ to_be_bytes w16 size
call_bytes (Load page word) = 76 ∷ (page_bytes page ++ to_be_bytes w16 word)
call_bytes (Store page word value) = 83 ∷ (page_bytes page ++ to_be_bytes w16 word ++ to_be_bytes w32 value)
call_bytes (Release page) = 82 ∷ page_bytes page
call_bytes (Flush object) = 70 ∷ object ∷ []

abbrev pub machine_bytes : MachineRecord → List ℕ
machine_bytes machine = 77 ∷ board_number machine.board ∷ (to_be_bytes w16 machine.frames ++ to_be_bytes w16 machine.quota)

-- at a place of a trace stands a record of these bytes: a byte tells how many they are, and they follow
pub record IsRecordAt (trace : List ℕ) (place : ℕ) (body : List ℕ) : Type 0 where
  pub stands : take (length body + 1) (drop place trace) ≡ length body ∷ body

-- a record stands at a place of a trace: a machine at the first place, a call at any other
abbrev pub StandsAt : List ℕ → ℕ → Record → Type 0
StandsAt trace place (Machine machine) = (place ≡ 1) × IsRecordAt trace place (machine_bytes machine)
StandsAt trace place (Call asked) = (place ≢ 1) × IsRecordAt trace place (call_bytes asked)
