-- The accepted calls of a run, and what they say of a word and of a page.
use Rattle.std.specs.Prelude.{ℕ, Bool, true, false, cond, ◌&&◌, List, [], ◌∷◌, Some, None, Option, ◌==◌}
use Rattle.page_machine.specs.Machine.{Machine, started}
use Rattle.page_machine.specs.Calls.{Call, Open, Load, Store, Release, Flush, Close}
use Rattle.page_machine.specs.Refusals.{rows, first_of}
use Rattle.page_machine.specs.Steps.{step}

-- a call that is accepted joins the earlier ones
abbrev pub joins : Option ℕ → Call → List Call → List Call
joins None c earlier = c ∷ earlier
joins (Some number) c earlier = earlier

-- the accepted calls of a run, the latest first, before the earlier ones
unfoldable pub history : Machine → List Call → List Call → List Call
history m [] earlier = earlier
history m (c ∷ cs) earlier = history (step m c).state cs (joins (first_of (rows m c)) c earlier)

-- what was last stored to the word k of the page p of object o since the page came in, else 0, by the accepted calls, the
-- latest first
abbrev pub last_stored : List Call → ℕ → ℕ → ℕ → ℕ
last_stored [] o p k = 0
last_stored (Open b n ∷ cs) o p k = last_stored cs o p k
last_stored (Load b q j ∷ cs) o p k = last_stored cs o p k
last_stored (Store b q j x ∷ cs) o p k = cond ((o == b && p == q) && k == j) x (last_stored cs o p k)
last_stored (Release b q ∷ cs) o p k = cond (o == b && p == q) 0 (last_stored cs o p k)
last_stored (Flush b list ∷ cs) o p k = last_stored cs o p k
last_stored (Close b ∷ cs) o p k = cond (o == b) 0 (last_stored cs o p k)

-- whether the page p of object o was stored to since it came in and since the last flush of o
abbrev pub stored_to : List Call → ℕ → ℕ → Bool
stored_to [] o p = false
stored_to (Open b n ∷ cs) o p = stored_to cs o p
stored_to (Load b q j ∷ cs) o p = stored_to cs o p
stored_to (Store b q j x ∷ cs) o p = cond (o == b && p == q) true (stored_to cs o p)
stored_to (Release b q ∷ cs) o p = cond (o == b && p == q) false (stored_to cs o p)
stored_to (Flush b list ∷ cs) o p = cond (o == b) false (stored_to cs o p)
stored_to (Close b ∷ cs) o p = cond (o == b) false (stored_to cs o p)

-- the accepted calls of a run from start
abbrev pub accepts : ℕ → ℕ → ℕ → List Call → List Call
accepts w n a cs = history (started w n a) cs []
