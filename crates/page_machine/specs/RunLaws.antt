-- Laws over runs of the page machine: what loads tell and which pages are stored, told from the accepted calls alone; and what
-- holds after every run.
use Rattle.std.specs.Prelude.{◌≡◌, ℕ, ◌*◌, ◌<◌, ◌≤◌, true, List, Some, ◌≢◌}
use Rattle.page_machine.specs.Machine.{Machine, started, is_present, is_stored, present_count}
use Rattle.page_machine.specs.Calls.{Call, Load, Store, word, refused}
use Rattle.page_machine.specs.Refusals.{rows, first_of, refusal}
use Rattle.page_machine.specs.Steps.{step, handed, tells}
use Rattle.page_machine.specs.Runs.{replies, after}
use Rattle.page_machine.specs.Histories.{accepts, last_stored, stored_to}

-- what is loaded is what was last stored there since the page came in, else 0
abbrev pub LoadsLastStored : Type 0
LoadsLastStored =
    (w n a : ℕ) (cs : List Call) (o p k x : ℕ) → (step (after (started w n a) cs) (Load o p k)).reply ≡ word x →
    x ≡ last_stored (accepts w n a cs) o p k

-- a page is stored exactly if it was stored to since it came in and since the last flush
abbrev pub StoredSinceFlush : Type 0
StoredSinceFlush =
    (w n a : ℕ) (cs : List Call) (o p : ℕ) → is_stored ((after (started w n a) cs).page o p) ≡ stored_to (accepts w n a cs) o p

-- a refused call changes nothing
abbrev pub RefusalsKeep : Type 0
RefusalsKeep =
    (m : Machine) (c : Call) (number : ℕ) → first_of (rows m c) ≡ Some number →
    ((step m c).reply ≡ refusal c number) × ((step m c).state ≡ m)

-- with a frame memory of N × W words a call is the machine's step
abbrev pub MemoryFits : Type 0
MemoryFits = (m : Machine) (length : ℕ) (c : Call) → length ≡ m.frames * m.words → handed m length c ≡ step m c

-- with another a load and a store are refused by 2, whatever else is wrong
pub record RefusedByTwo (m : Machine) (length : ℕ) : Type 0 where
  pub load : (o p k : ℕ) → handed m length (Load o p k) ≡ tells (refused 2) m
  pub store : (o p k x : ℕ) → handed m length (Store o p k x) ≡ tells (refused 2) m

abbrev pub MemoryMisfits : Type 0
MemoryMisfits = (m : Machine) (length : ℕ) → (length ≢ m.frames * m.words) → RefusedByTwo m length

-- what holds of a machine at any time
pub record Lawful (m : Machine) : Type 0 where
  pub room : present_count m ≤ m.limit
  pub sizes : (o : ℕ) → m.size o ≤ 1024
  pub below : (o p : ℕ) → is_present (m.page o p) ≡ true → (o < 4) × (p < m.size o)

-- after every run no more pages than the limit are present, each below its object's size
abbrev pub StaysLawful : Type 0
StaysLawful = (w n a : ℕ) (cs : List Call) → Lawful (after (started w n a) cs)

-- replies tell nothing of the number of frames
abbrev pub FramesUnseen : Type 0
FramesUnseen = (w n k a : ℕ) (cs : List Call) → replies (started w n a) cs ≡ replies (started w k a) cs
