use Rattle.std.proofs.Common.{get_or, vec_items, sym, ◌∙◌}
use Rattle.mapping.specs.declared.alpha.Alpha.{Alpha}
use Rattle.mapping.specs.AlphaFormat.{alpha_at, AlphaTable}
use Rattle.mapping.specs.AlphaTables.{Sound}
use Rattle.mapping.specs.AlphaLeaves.{alpha_table}

-- what every Alpha keeps
pub sound_of : (s : Alpha) → Sound (λ i. get_or (vec_items s.table) i 0)
sound_of s = record { small = s.small; same = s.same }

pub table_of : (s : Alpha) → AlphaTable (alpha_at (vec_items s.table)) (vec_items s.table)
table_of s = alpha_table (vec_items s.table) (sound_of s) (sym s.table.ok.0 ∙ s.long)
