use Rattle.std.proofs.Common.{◌≡◌, ℕ, ◌+◌, ◌^◌, ◌<◌, ◌≤◌, List, Some, None, Ok, Err, Option, Result, sym, refl, ap, ◌∙◌, subst, inl, inr, arith}
use Rattle.std.proofs.lemmas.Nat.{pow_pos}
use Rattle.std.proofs.lemmas.Bool.{cases_lt, cases_eq}
use Rattle.mapping.specs.Told.{none_some, some_is}
use Rattle.mapping.specs.declared.leaf.Leaf.{Leaf}
use Rattle.mapping.specs.declared.leaf.NoLeaf.{NoLeaf}
use Rattle.mapping.specs.Leaves.{Leaves, Lawful, AllLawful, Filled, PutOk, Clear, LieApart, Undone}

-- a clear of a page whose leaf is known removes that leaf
pub gone : (before after : Leaves) (o p : ℕ) (l : Leaf) → before o p ≡ Some l → (r : Result ℕ NoLeaf) → Clear before after o p r → Filled before after o l None
gone before after o p l e (Ok k) c = subst (λ m. Filled before after o m None) (some_is _ _ (sym c.was ∙ e)) c.filled
gone before after o p l e (Err x) c = absurd (none_some l _ c.0 e)

-- past the last page there is no leaf
pub past : (sizes : List ℕ) (at : Leaves) (o : ℕ) → ((p : ℕ) (l : Leaf) → at o p ≡ Some l → Lawful sizes at o p l) → (p : ℕ) → 1024 ≤ p → at o p ≡ None
past sizes at o law p h = go (at o p) refl
  where
    go : (x : Option Leaf) → at o p ≡ x → at o p ≡ None
    go None e = e
    go (Some l) e = let w = law p l e in absurd (omega (arith, w.below, w.within))

-- a put, and the clear of the leaf that it laid
pub undone : (sizes : List ℕ) (before mid after : Leaves) (o p : ℕ) (l : Leaf) → p ≡ l.first.0 → PutOk sizes before mid o l
    → (r : Result ℕ NoLeaf) → Clear mid after o p r → Undone sizes before after o l
undone sizes before mid after o p l is put r clear =
    let h = pow_pos l.order in
    let on : mid o p ≡ Some l = ap (mid o) is ∙ put.filled.inside l.first.0 (omega arith) (omega arith) in
    let g : Filled mid after o l None = gone mid after o p l on r clear in
    let w : Filled before after o l None = record {
      inside = g.inside;
      outside = record {
        lower = λ p h. g.outside.lower p h ∙ put.filled.outside.lower p h;
        upper = λ p h. g.outside.upper p h ∙ put.filled.outside.upper p h;
        apart = λ b p n. g.outside.apart b p n ∙ put.filled.outside.apart b p n;
      };
    } in
    record { fit = put.fit; filled = w; back = λ free b p. whole w free b p }
  where
    whole : Filled before after o l None → ((p : ℕ) → l.first.0 ≤ p → p < l.first.0 + 2 ^ l.order → before o p ≡ None) → (b p : ℕ) → after b p ≡ before b p
    whole w free b p =
        elim (cases_eq b o) [
          | inr n ↦ w.outside.apart b p n
          | inl e ↦ subst (λ c. after c p ≡ before c p) (sym e) (elim (cases_lt p l.first.0) [
            | inl i ↦ w.outside.lower p i
            | inr i ↦ elim (cases_lt p (l.first.0 + 2 ^ l.order)) [
              | inl j ↦ w.inside p i j ∙ sym (free p i j)
              | inr j ↦ w.outside.upper p j
            ]
          ])
        ]

-- leaves that share a page are one leaf
pub lie_apart : (sizes : List ℕ) (at : Leaves) → AllLawful sizes at → LieApart at
lie_apart sizes at law o p q l m e f n =
    let v = law.each o p l e in
    let w = law.each o q m f in
    let x = pow_pos l.order in
    let y = pow_pos m.order in
    elim (cases_lt m.first.0 (l.first.0 + 2 ^ l.order)) [
      | inr h ↦ inl h
      | inl h ↦ elim (cases_lt l.first.0 (m.first.0 + 2 ^ m.order)) [
        | inr i ↦ inr i
        | inl i ↦ elim (cases_lt l.first.0 m.first.0) [
          | inl j ↦ absurd (n (some_is _ _ (sym (v.same m.first.0 (omega arith) h) ∙ w.same m.first.0 (omega arith) (omega arith))))
          | inr j ↦ absurd (n (some_is _ _ (sym (v.same l.first.0 (omega arith) (omega arith)) ∙ w.same l.first.0 j i)))
        ]
      ]
    ]
