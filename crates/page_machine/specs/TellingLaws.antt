-- What the replies of a new machine tell of it: its words a page and its limit, and nothing else.
use Rattle.std.specs.Prelude.{◌≡◌, ℕ, ◌<◌, ◌≤◌, List, [], ◌∷◌}
use Rattle.page_machine.specs.Machine.{started}
use Rattle.page_machine.specs.Calls.{Call, Open, Load, Store, Release, Flush, Close}
use Rattle.page_machine.specs.Runs.{replies}

-- a call that can be made: its numbers fit the widths of its arguments
abbrev pub Fits : Call → Type 0
Fits (Open o n) = (o < 256) × (n < 65536)
Fits (Load o p k) = (o < 256) × (p < 65536) × (k < 65536)
Fits (Store o p k x) = (o < 256) × (p < 65536) × (k < 65536) × (x < 4294967296)
Fits (Release o p) = (o < 256) × (p < 65536)
Fits (Flush o list) = o < 256
Fits (Close o) = o < 256

abbrev pub AllFit : List Call → Type 0
AllFit [] = Unit {0}
AllFit (c ∷ cs) = Fits c × AllFit cs

-- machines alike in words and limit reply alike to every list of calls
abbrev pub AlikeReplyAlike : Type 0
AlikeReplyAlike =
    (w v n k a b : ℕ) → w ≡ v → a ≡ b → (cs : List Call) → replies (started w n a) cs ≡ replies (started v k b) cs

-- calls that can be made, and are replied otherwise by the two machines
pub record TellApart (w v n k a b : ℕ) : Type 0 where
  pub calls : List Call
  pub fit : AllFit calls
  pub apart : replies (started w n a) calls ≡ replies (started v k b) calls → ⊥

-- machines unlike in words or limit reply unlike to some list of calls
abbrev pub UnlikeReplyUnlike : Type 0
UnlikeReplyUnlike =
    (w v n k a b : ℕ) → 0 < w → 0 < v → w ≤ 2048 → v ≤ 2048 → a ≤ 2048 → b ≤ 2048 → ((w ≡ v) × (a ≡ b) → ⊥) →
    TellApart w v n k a b
