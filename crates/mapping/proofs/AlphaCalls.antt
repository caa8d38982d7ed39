use Rattle.std.proofs.Common.{◌≡◌, ℕ, ◌+◌, ◌-◌, ◌*◌, ◌/◌, ◌%◌, ◌^◌, ◌<◌, ◌≤◌, cond, ◌&&◌, eqb, ltb, List, get_or, Some, None, Option, sym, ap, ◌∙◌, subst, inl, inr, arith}
use native.Mathlib.Nat.{mul-mod_left}
use Rattle.std.proofs.lemmas.Nat.{pow_pos}
use Rattle.std.proofs.lemmas.Bool.{cases_lt}
use Rattle.mapping.specs.declared.leaf.Leaf.{Leaf}
use Rattle.mapping.specs.Leaves.{Filled, Fit, Cleared, PutOk, Reaches, lay}
use Rattle.mapping.specs.AlphaFormat.{order_in, fault_in, alpha_word, frame_in, alpha_leaf, alpha_at, alpha_sizes}
use Rattle.mapping.specs.AlphaWords.{Order, hinted, neighbour_zero}
use Rattle.mapping.specs.Aligned.{in_block, of_block, distance, start}
use Rattle.mapping.specs.AlphaTables.{Sound, Outside, sound_put, sound_clear}
use Rattle.mapping.specs.AlphaLeaves.{fault_small, order_of, read_back, by_order, at_in, at_object, at_page, leaf_is, leaf_none, leaf_at, alpha_lawful, fits_object, common, same_rest}
use Rattle.mapping.proofs.Rewritten.{Written}
use Rattle.mapping.specs.Reaching.{unhindered, reaches}

-- the same at the places and values that the code computed
pub written : {xs ys : List ℕ} {s n e step : ℕ} (z count low : ℕ) → s ≡ z → n ≡ count → e ≡ low → Written xs ys s n e step → Written xs ys z count low step
written {xs} {ys} {s} {n} {e} {step} z count low p q r w =
    subst (λ z. Written xs ys z count low step) p (subst (λ n. Written xs ys s n low step) q (subst (λ e. Written xs ys s n e step) r w))

pub outside : {xs ys : List ℕ} {s low step : ℕ} (k : ℕ) → Written xs ys s (2 ^ k) low step → s % 2 ^ k ≡ 0
    → Outside (λ i. get_or xs i 0) (λ i. get_or ys i 0) (s / 2 ^ k) k
outside {s = s} k w a =
    record {
      stays = λ j n. elim (cases_lt j s) [
        | inl l ↦ w.lower j l
        | inr g ↦ elim (cases_lt j (s + 2 ^ k)) [
          | inl l ↦ absurd (n (in_block k s j a g l))
          | inr h ↦ w.upper j h
        ]
      ];
    }

pub within : {xs ys : List ℕ} {s low step : ℕ} (k : ℕ) → Written xs ys s (2 ^ k) low step → s % 2 ^ k ≡ 0
    → (j : ℕ) → j / 2 ^ k ≡ s / 2 ^ k → get_or ys j 0 ≡ low + (j % 2 ^ k) * step
within {xs} {ys} {s} {low} {step} k w a j e =
    let b = of_block k s j a e in
    let lo : s ≤ j = b.0 in
    let hi : j < s + 2 ^ k = b.1 in
    let d : j % 2 ^ k ≡ j - s = distance k s j a lo hi in
    let f : s + (j - s) ≡ j = omega arith in
    let v : get_or ys (s + (j - s)) 0 ≡ low + (j - s) * step = w.inside (j - s) (omega arith) in
    subst (λ x. get_or ys x 0 ≡ low + (j - s) * step) f v ∙ ap (λ x. low + x * step) (sym d)

pub filled : {xs ys : List ℕ} {low step : ℕ} (o : ℕ) (l : Leaf) (x : Option Leaf) → o < 4 → l.first.0 + 2 ^ l.order ≤ 1024
    → Written xs ys (o * 1024 + l.first.0) (2 ^ l.order) low step
    → ((p : ℕ) → l.first.0 ≤ p → p < l.first.0 + 2 ^ l.order → alpha_leaf p (get_or ys (o * 1024 + p) 0) ≡ x)
    → Filled (alpha_at xs) (alpha_at ys) o l x
unfolding alpha_at
filled {xs} {ys} o l x a b w each =
    record {
      inside = λ p i j. at_in ys o p a (omega arith) ∙ each p i j;
      outside = record {
        lower = λ p h. same o p (w.lower (o * 1024 + p) (omega arith));
        upper = λ p h. same o p (w.upper (o * 1024 + p) (omega arith));
        apart = λ c p n. elim (cases_lt p 1024) [
          | inr h ↦ at_page ys c p h ∙ sym (at_page xs c p h)
          | inl h ↦ elim (cases_lt c o) [
            | inl m ↦ same c p (w.lower (c * 1024 + p) (omega arith))
            | inr m ↦ let q : o < c = omega arith in same c p (w.upper (c * 1024 + p) (omega arith))
          ]
        ];
      };
    }
  where
    same : (o p : ℕ) → get_or ys (o * 1024 + p) 0 ≡ get_or xs (o * 1024 + p) 0 → alpha_at ys o p ≡ alpha_at xs o p
    same o p e = ap (λ v. cond (ltb o 4 && ltb p 1024) (alpha_leaf p v) None) e

-- a leaf that fits starts within the table
pub starts : (o : ℕ) (l : Leaf) → Fit alpha_sizes o l → o * 1024 + l.first.0 < 4096
starts o l fit = let a = fit.object in let w = fit.within in let p = pow_pos l.order in omega arith

-- and a leaf ends within it
pub ends : (o p k s n : ℕ) → o < 4 → p < 1024 → Order k → s ≡ o * 1024 + p / 2 ^ k * 2 ^ k → n ≡ 2 ^ k → s + n ≤ 4096
ends o p k s n a b r at is = omega (arith, fits_object k p r b)

pub aligned : (k o f : ℕ) → Order k → f % 2 ^ k ≡ 0 → (o * 1024 + f) % 2 ^ k ≡ 0
aligned k o f r e = same_rest k o f r ∙ e

-- clear
module _ (xs ys : List ℕ) (o p : ℕ) (sound : Sound (λ i. get_or xs i 0)) (a : o < 4) (b : p < 1024) (n : get_or xs (o * 1024 + p) 0 ≡ 0 → ⊥)
    (k : ℕ) (is : k ≡ order_in (get_or xs (o * 1024 + p) 0)) (w : Written xs ys (o * 1024 + p / 2 ^ k * 2 ^ k) (2 ^ k) 0 0) where
  order : Order k
  order = subst Order (sym is) (hinted (get_or xs (o * 1024 + p) 0))

  al : p / 2 ^ k * 2 ^ k % 2 ^ k ≡ 0
  al = mul-mod_left (p / 2 ^ k) (2 ^ k)

  pub cleared_sound : Sound (λ i. get_or ys i 0)
  cleared_sound =
      let s : ℕ = o * 1024 + p / 2 ^ k * 2 ^ k in
      let t : s % 2 ^ k ≡ 0 = aligned k o _ order al in
      let c : (p / 2 ^ k * 2 ^ k) / 2 ^ k ≡ p / 2 ^ k = lib.Pow.shl-shr (p / 2 ^ k) k in
      sound_clear (λ i. get_or xs i 0) (λ i. get_or ys i 0) (s / 2 ^ k) k sound (outside k w t) (o * 1024 + p) (sym is)
      (common k o (p / 2 ^ k * 2 ^ k) p order (sym c))
      (λ j e. within k w t j e ∙ (omega arith))

  pub cleared : Cleared (alpha_at xs) (alpha_at ys) o p k
  cleared =
      record {
        leaf = leaf_at p (get_or xs (o * 1024 + p) 0);
        was = at_in xs o p a b ∙ leaf_is p _ n;
        order = sym is;
        filled = subst (λ z. Filled (alpha_at xs) (alpha_at ys) o (lay (p / 2 ^ z * 2 ^ z) (z) (frame_in (get_or xs (o * 1024 + p) 0)) (eqb (fault_in (get_or xs (o * 1024 + p) 0)) 0)) None) is
            (filled o (lay (p / 2 ^ k * 2 ^ k) (k) (frame_in (get_or xs (o * 1024 + p) 0)) (eqb (fault_in (get_or xs (o * 1024 + p) 0)) 0)) None a (fits_object k p order b) w gone);
      }
    where
      gone : (q : ℕ) → p / 2 ^ k * 2 ^ k ≤ q → q < p / 2 ^ k * 2 ^ k + 2 ^ k → alpha_leaf q (get_or ys (o * 1024 + q) 0) ≡ None
      gone q i j =
          let s : ℕ = o * 1024 + p / 2 ^ k * 2 ^ k in
          let t : s % 2 ^ k ≡ 0 = aligned k o _ order al in
          leaf_none q _ (within k w t (o * 1024 + q) (in_block k s (o * 1024 + q) t (omega arith) (omega arith)) ∙ (omega arith))

-- put
module _ (xs ys : List ℕ) (o : ℕ) (l : Leaf) (sound : Sound (λ i. get_or xs i 0)) (fit : Fit alpha_sizes o l) (even : l.first.0 % 2 ^ l.order ≡ 0)
    (free : order_in (get_or xs (o * 1024 + l.first.0) 0) ≤ l.order) (w : Written xs ys (o * 1024 + l.first.0) (2 ^ l.order) (alpha_word l.frame.0 l.order (cond l.writable 0 1)) 4294967296) where
  bit : cond l.writable 0 1 < 2
  bit = fault_small l.writable

  put_order : Order l.order
  put_order = order_of l.order fit.sized

  straight : (o * 1024 + l.first.0) % 2 ^ l.order ≡ 0
  straight = aligned l.order o l.first.0 put_order even

  words : (j : ℕ) → j / 2 ^ l.order ≡ (o * 1024 + l.first.0) / 2 ^ l.order → get_or ys j 0 ≡ alpha_word (l.frame.0 + j % 2 ^ l.order) l.order (cond l.writable 0 1)
  unfolding alpha_word
  words j e = within l.order w straight j e ∙ (omega arith)

  pub put_sound : Sound (λ i. get_or ys i 0)
  put_sound =
      sound_put (λ i. get_or xs i 0) (λ i. get_or ys i 0) ((o * 1024 + l.first.0) / 2 ^ l.order) l.order sound (outside l.order w straight)
      l.frame.0 (cond l.writable 0 1) put_order bit fit.straight fit.bounded
      (subst (λ i. order_in (get_or xs i 0) ≤ l.order) (sym (start l.order (o * 1024 + l.first.0) straight)) free)
      words

  laid : (p : ℕ) → l.first.0 ≤ p → p < l.first.0 + 2 ^ l.order → alpha_leaf p (get_or ys (o * 1024 + p) 0) ≡ Some l
  laid p i j =
      ap (alpha_leaf p) (words (o * 1024 + p) (in_block l.order (o * 1024 + l.first.0) (o * 1024 + p) straight (omega arith) (omega arith)))
      ∙ read_back l p (o * 1024 + p) put_order even fit.straight i j

  pub put_ok : PutOk alpha_sizes (alpha_at xs) (alpha_at ys) o l
  put_ok =
      record {
        fit = fit;
        unhindered = unhindered alpha_sizes (alpha_at xs) o (alpha_lawful xs sound o) l even low;
        filled = filled o l (Some l) fit.object fit.within w laid;
      }
    where
      low : (m : Leaf) → alpha_at xs o l.first.0 ≡ Some m → m.order ≤ l.order
      low m e =
          let g = Rattle.mapping.specs.AlphaLeaves.got xs o l.first.0 m e in
          let q : order_in (get_or xs (o * 1024 + l.first.0) 0) ≡ m.order = ap (λ (z : Leaf). z.order) g.is in
          omega arith

zero : (k e : ℕ) → e ≡ 0 → k < order_in e → ⊥
unfolding order_in
zero k e z h = omega arith

pub put_reaches : (xs : List ℕ) (o : ℕ) (l : Leaf) → Sound (λ i. get_or xs i 0) → Fit alpha_sizes o l → l.first.0 % 2 ^ l.order ≡ 0
    → l.order < order_in (get_or xs (o * 1024 + l.first.0) 0) → Reaches (alpha_at xs) o l
put_reaches xs o l sound fit even more =
    let e : ℕ = get_or xs (o * 1024 + l.first.0) 0 in
    let pos : 0 < 2 ^ l.order = pow_pos l.order in
    let w = fit.within in
    let n : e ≡ 0 → ⊥ = λ z. zero l.order e z more in
    reaches alpha_sizes (alpha_at xs) o (alpha_lawful xs sound o) l even (leaf_at l.first.0 e)
    (at_in xs o l.first.0 fit.object (omega arith) ∙ leaf_is l.first.0 e n) more

-- an empty table
pub blank_sound : (xs : List ℕ) → ((i : ℕ) → get_or xs i 0 ≡ 0) → Sound (λ i. get_or xs i 0)
unfolding order_in
blank_sound xs z =
    record {
      small = λ i. omega (arith, z i);
      same = λ i j e. z j ∙ sym (neighbour_zero (get_or xs i 0) j (z i));
    }

pub blank_none : (xs : List ℕ) → ((i : ℕ) → get_or xs i 0 ≡ 0) → (o p : ℕ) → alpha_at xs o p ≡ None
blank_none xs z o p =
    elim (cases_lt o 4) [
      | inr g ↦ at_object xs o p g
      | inl a ↦ elim (cases_lt p 1024) [ inr g ↦ at_page xs o p g | inl b ↦ at_in xs o p a b ∙ leaf_none p _ (z _) ]
    ]
