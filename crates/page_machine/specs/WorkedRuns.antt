-- Worked runs of the page machine.
use Rattle.std.specs.Prelude.{◌≡◌, List, [], ◌∷◌}
use Rattle.page_machine.specs.Machine.{started}
use Rattle.page_machine.specs.Calls.{Call, Open, Load, Store, Release, Flush, Close, done, word, flushed, no_frame}
use Rattle.page_machine.specs.Runs.{replies}

-- limit 0: the first load is refused
abbrev pub LimitZero : Type 0
LimitZero = replies (started 1 16 0) (Open 0 1 ∷ Load 0 0 0 ∷ []) ≡ done ∷ no_frame 0 0 ∷ []

-- every call, with two flushes: W = 2, N = 16, limit 2, object 1 of 20 pages
abbrev pub every_call : List Call
every_call =
    Open 1 20
    ∷ Store 1 9 1 7
    ∷ Load 1 9 1
    ∷ Load 1 3 0
    ∷ Store 1 4 0 5
    ∷ Flush 1 (5 ∷ 6 ∷ [])
    ∷ Load 1 9 1
    ∷ Flush 1 (5 ∷ 6 ∷ [])
    ∷ Release 1 9
    ∷ Store 1 4 0 5
    ∷ Close 1
    ∷ Open 1 1
    ∷ Load 1 0 0
    ∷ []

-- the third page finds no room until one is released; the first flush tells page 9, the second nothing, and the later places
-- of their lists stay
abbrev pub EveryCall : Type 0
EveryCall =
    replies (started 2 16 2) every_call
    ≡ done
    ∷ done
    ∷ word 7
    ∷ word 0
    ∷ no_frame 1 4
    ∷ flushed 1 (9 ∷ 6 ∷ [])
    ∷ word 7
    ∷ flushed 0 (5 ∷ 6 ∷ [])
    ∷ done
    ∷ done
    ∷ done
    ∷ done
    ∷ word 0
    ∷ []
