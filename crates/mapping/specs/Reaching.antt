use Rattle.std.specs.Prelude.{◌≡◌, ℕ, ◌+◌, ◌-◌, ◌%◌, ◌^◌, ◌<◌, ◌≤◌, List, Some}
use Rattle.std.proofs.Common.{inl, inr, arith}
use Rattle.std.proofs.Math.Pow.{pow-lt}
use Rattle.std.proofs.lemmas.Nat.{pow_pos}
use Rattle.std.proofs.lemmas.Bool.{cases_lt}
use Rattle.mapping.specs.declared.leaf.Leaf.{Leaf}
use Rattle.mapping.specs.Leaves.{Leaves, Lawful, Unhindered, Reaches, Inside}
use Rattle.mapping.specs.Aligned.{inner}

-- The first page tells whether a leaf reaches out of a block, at any hardware.
module _ (sizes : List ℕ) (at : Leaves) (o : ℕ) (law : (p : ℕ) (m : Leaf) → at o p ≡ Some m → Lawful sizes at o p m) (l : Leaf) (aligned : l.first.0 % 2 ^ l.order ≡ 0) where
  inside : (p : ℕ) (m : Leaf) → l.first.0 ≤ p → p < l.first.0 + 2 ^ l.order → Lawful sizes at o p m → m.order ≤ l.order → Inside l m
  inside p m a b w h =
      let pos : 0 < 2 ^ m.order = pow_pos m.order in
      let x = inner m.order l.order m.first.0 l.first.0 p h w.aligned aligned w.from w.below a b in
      let y : (l.first.0 ≤ m.first.0) × (m.first.0 < l.first.0 + 2 ^ l.order) = x m.first.0 (omega arith) (omega arith) in
      let z : (l.first.0 ≤ m.first.0 + 2 ^ m.order - 1) × (m.first.0 + 2 ^ m.order - 1 < l.first.0 + 2 ^ l.order) = x (m.first.0 + 2 ^ m.order - 1) (omega arith) (omega arith) in
      record { from = y.0; to = omega arith }

  pub unhindered : ((m : Leaf) → at o l.first.0 ≡ Some m → m.order ≤ l.order) → Unhindered at o l
  unhindered first =
      record {
        each = λ p m a b e.
            let w : Lawful sizes at o p m = law p m e in
            elim (cases_lt l.order m.order) [
              | inl h ↦
                  let pos : 0 < 2 ^ l.order = pow_pos l.order in
                  let x : (m.first.0 ≤ l.first.0) × (l.first.0 < m.first.0 + 2 ^ m.order) = inner l.order m.order l.first.0 m.first.0 p (omega arith) aligned w.aligned a b w.from w.below l.first.0 (omega arith) (omega arith) in
                  absurd (omega (arith, first m (w.same l.first.0 x.0 x.1)))
              | inr h ↦ inside p m a b w h
            ];
      }

  pub reaches : (m : Leaf) → at o l.first.0 ≡ Some m → l.order < m.order → Reaches at o l
  reaches m e h =
      let pos : 0 < 2 ^ l.order = pow_pos l.order in
      let more : 2 ^ l.order < 2 ^ m.order = pow-lt h in
      record { page = l.first.0; leaf = m; from = omega arith; below = omega arith; lies = e; out = λ i. let f = i.from in let t = i.to in omega arith }
