-- The machine over a list of calls.
use Rattle.std.specs.Prelude.{List, [], ◌∷◌}
use Rattle.page_machine.specs.Machine.{Machine}
use Rattle.page_machine.specs.Calls.{Call, Reply}
use Rattle.page_machine.specs.Steps.{step}

-- what the calls are replied
unfoldable pub replies : Machine → List Call → List Reply
replies m [] = []
replies m (c ∷ cs) = (step m c).reply ∷ replies (step m c).state cs

-- the machine after the calls
unfoldable pub after : Machine → List Call → Machine
after m [] = m
after m (c ∷ cs) = after (step m c).state cs
