use Rattle.std.proofs.Common.{◌≡◌, ℕ, ◌+◌, ◌-◌, List, length, get_or, set, vec_items, refl, ap, arith}
use Rattle.mapping.specs.Sv39Words.{Lowered}
use Rattle.mapping.proofs.Rewritten.{read_at}
use Rattle.mapping.proofs.Counts.{one, one_small, one_byte}
use Rattle.mapping.proofs.Sv39Calls.{Counts, lowered_at, on_page, few_leaves, among, lowered, low_counts}
use Rattle.mapping.proofs.Sv39State.{counts_of, long_of}
use Rattle.mapping.proofs.sv39.Levels.set_lower.Goals as goal
use Rattle.mapping.proofs.sv39.Levels.set_lower.Goals.{After-from-2, After-pointer}

-- what stood at the place
old : (c : After-from-2) → c.index-old.result.now ≡ get_or (vec_items c.args.self.now.table) c.lower-place.result 0
old c =
    let a = c.requires.object in
    let b = c.requires.number in
    read_at (vec_items c.args.self.now.table) _ _ _ 4104 c.index-old.ensures refl (long_of c.args.self.now) (omega (arith, c.lower-place.ensures))

pub overflow_add-count : goal.overflow_add-count
overflow_add-count c =
    let w = on_page _ _ _ _ c.requires.object c.requires.number c.upper-n.ensures c.lower-place.ensures in
    omega (arith, few_leaves (vec_items c.args.self.now.table) c.upper-n.result, c.args.self.now.counted c.upper-n.result w.0, c.from.ensures, one_byte c.args.entry, one_small c.args.entry)

pub overflow_sub-count : goal.overflow_sub-count
overflow_sub-count c =
    let w = on_page _ _ _ _ c.requires.object c.requires.number c.upper-n.ensures c.lower-place.ensures in
    omega (arith, among (vec_items c.args.self.now.table) c.upper-n.result c.lower-place.result w.1, c.args.self.now.counted c.upper-n.result w.0, c.from-2.ensures, one_byte c.index-old.result.now, ap one (old c))

-- once the count is taken
done : (c : After-pointer)
    → Lowered (vec_items c.args.self.now.table) (set (set (vec_items c.args.self.now.table) c.lower-place.result c.args.entry) c.upper-n.result c.pointer.result) c.upper-n.result c.lower-place.result c.args.entry
    × Counts (set c.args.self.now.counts c.upper-n.result (get_or c.args.self.now.counts c.upper-n.result 0 + c.from.result - c.from-2.result))
    (λ j. get_or (set (set (vec_items c.args.self.now.table) c.lower-place.result c.args.entry) c.upper-n.result c.pointer.result) j 0)
done c =
    let xs : List ℕ = vec_items c.args.self.now.table in
    let cs : List ℕ = c.args.self.now.counts in
    let n : ℕ = c.upper-n.result in
    let i : ℕ = c.lower-place.result in
    let v : ℕ = c.args.entry in
    let count : ℕ = get_or cs n 0 + c.from.result - c.from-2.result in
    let w = on_page _ _ n i c.requires.object c.requires.number c.upper-n.ensures c.lower-place.ensures in
    let b = w.1.below in
    let old : c.index-old.result.now ≡ get_or xs i 0 = read_at xs _ _ _ 4104 c.index-old.ensures refl (long_of c.args.self.now) (omega (arith, b, w.0)) in
    let is : count ≡ get_or cs n 0 + one v - one (get_or xs i 0) = omega (arith, c.from.ensures, one_byte v, c.from-2.ensures, one_byte c.index-old.result.now, ap one old) in
    let eight : length cs ≡ 8 = omega arith in (
      lowered xs cs n i v count c.pointer.result (long_of c.args.self.now) eight w.0 w.1 (counts_of c.args.self.now) is c.pointer.ensures,
      low_counts xs cs n i v count c.pointer.result (long_of c.args.self.now) eight w.0 w.1 (counts_of c.args.self.now) is c.pointer.ensures,
    )

pub invariant_of-self : goal.invariant_of-self
invariant_of-self c = let d = done (goal.at.invariant_of-self c).After-pointer in record { long = c.args.self.now.long; counted = d.1.each }

pub returns : goal.returns
returns c = lowered_at c.upper-n.ensures c.lower-place.ensures refl (done (goal.at.returns c).After-pointer).0
