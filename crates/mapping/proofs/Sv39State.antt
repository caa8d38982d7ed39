use Rattle.std.proofs.Common.{◌≡◌, length, get_or, vec_items, sym, ◌∙◌}
use Rattle.mapping.specs.declared.sv39.Levels.{Levels}
use Rattle.mapping.specs.declared.sv39.Sv39.{Sv39}
use Rattle.mapping.specs.Sv39Format.{sv39_at, Sv39Table}
use Rattle.mapping.specs.Sv39Words.{Sound}
use Rattle.mapping.proofs.Sv39Calls.{Counts}
use Rattle.mapping.proofs.Sv39Exact.{sv39_table}

-- what every Sv39 keeps
pub counts_of : (s : Levels) → Counts s.counts (λ i. get_or (vec_items s.table) i 0)
counts_of s = record { each = s.counted }

pub sound_of : (s : Sv39) → Sound (λ i. get_or (vec_items s.levels.table) i 0)
sound_of s = record { small = s.small; low = s.low; top = s.top }

pub table_of : (s : Sv39) → Sv39Table (sv39_at (vec_items s.levels.table)) (vec_items s.levels.table)
table_of s = sv39_table (vec_items s.levels.table) (sound_of s) (sym s.levels.table.ok.0 ∙ s.levels.long)

pub long_of : (s : Levels) → length (vec_items s.table) ≡ 4104
long_of s = sym s.table.ok.0 ∙ s.long
