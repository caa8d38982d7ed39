use Rattle.std.specs.Prelude.{◌≡◌, ℕ, zero, suc, ◌+◌, ◌-◌, ◌<◌, ◌≤◌, Bool, true, false, ◌&&◌, ◌||◌, ◌⊎◌, List, length, ◌==◌, ◌≢◌, nat_le, nat_lt, slice_index, slice_index_or, slice_set, refl}
use Rattle.std.proofs.Common.{sym, ap, subst, ◌∙◌, inl, inr, ⊎_elim, arith, add-one}
use Rattle.std.proofs.lemmas.List.{get_or-set_same, get_or-set_other}
use Rattle.std.proofs.Math.Bool.{and-false, or-true, or-false}
use Rattle.std.proofs.lemmas.Bool.{cases_eq, cases_lt, both_ways, eq-eqb, ne_eqb, lt-ltb, le-ltb, le-leb, lt-leb}
use Rattle.frames.specs.Source.{tally, Joined}
use Rattle.frames.specs.Listed.{listed, Distinct, AllBelow, Appended}
use Rattle.frames.specs.Tally.{tally_run, tally_same, tally_le}

-- the place n holds f, or an earlier one does
here : (xs : List ℕ) (n f : ℕ) → slice_index xs n ≡ f → listed xs (suc n) f ≡ true
here xs n f e = ap (λ (b : Bool). b || listed xs n f) (eq-eqb (slice_index xs n) f e)

away : (xs : List ℕ) (n f : ℕ) → (slice_index xs n ≢ f) → listed xs (suc n) f ≡ listed xs n f
away xs n f e = ap (λ (b : Bool). b || listed xs n f) (ne_eqb (slice_index xs n) f e)

pub below_of : (xs : List ℕ) (n m f : ℕ) → AllBelow xs n m → listed xs n f ≡ true → f < m
below_of xs zero m f h e = absurd (both_ways false refl e)
below_of xs (suc n) m f h e =
    ⊎_elim (λ (y : slice_index_or xs n 0 ≡ f). let l = h n (omega arith) in omega arith)
    (λ o. below_of xs n m f (λ i l. h i (omega arith)) (sym (away xs n f o) ∙ e))
    (cases_eq (slice_index xs n) f)

-- lists that agree on the first n places
pub listed_same : (xs ys : List ℕ) (n f : ℕ) → ((i : ℕ) → i < n → slice_index ys i ≡ slice_index xs i) → listed ys n f ≡ listed xs n f
listed_same xs ys zero f h = refl
listed_same xs ys (suc n) f h =
    ap (λ (x : ℕ). (x == f) || listed ys n f) (h n (omega arith))
    ∙ ap (λ (b : Bool). (slice_index xs n == f) || b) (listed_same xs ys n f (λ i l. h i (omega arith)))

-- one place more, in the row of bits
pub row_more : (xs : List ℕ) (b b' : ℕ → Bool) (n : ℕ) → ((f : ℕ) → b f ≡ listed xs n f) → b' (slice_index xs n) ≡ true
    → ((f : ℕ) → (f ≢ slice_index xs n) → b' f ≡ b f) → (f : ℕ) → b' f ≡ listed xs (n + 1) f
row_more xs b b' n h at others f =
    rw add-one
    (⊎_elim (λ (e : f ≡ slice_index xs n). ap b' e ∙ at ∙ sym (here xs n f (sym e)))
    (λ o. others f o ∙ h f ∙ sym (away xs n f (λ e. o (sym e))))
    (cases_eq f (slice_index xs n)))

-- and one less
pub row_less : (xs : List ℕ) (b b' : ℕ → Bool) (n : ℕ) → 0 < n → Distinct xs n → ((f : ℕ) → b f ≡ listed xs n f)
    → b' (slice_index xs (n - 1)) ≡ false → ((f : ℕ) → (f ≢ slice_index xs (n - 1)) → b' f ≡ b f) → (f : ℕ) → b' f ≡ listed xs (n - 1) f
row_less xs b b' zero z d h at others f = absurd (omega arith)
row_less xs b b' (suc m) z d h at others f =
    let e : suc m - 1 ≡ m = omega arith in
    let at' : b' (slice_index xs m) ≡ false = subst (λ (i : ℕ). b' (slice_index xs i) ≡ false) e at in
    let others' : (f : ℕ) → (f ≢ slice_index xs m) → b' f ≡ b f =
    subst (λ (i : ℕ). (f : ℕ) → (f ≢ slice_index xs i) → b' f ≡ b f) e others in
    rw e
    (⊎_elim (λ (y : f ≡ slice_index xs m). ap b' y ∙ at' ∙ sym (ap (listed xs m) y ∙ d m (omega arith)))
    (λ o. others' f o ∙ h f ∙ away xs m f (λ y. o (sym y)))
    (cases_eq f (slice_index xs m)))

-- one number more that a test holds of
pub tally_more : (b b' : ℕ → Bool) (x n : ℕ) → x < n → b x ≡ false → b' x ≡ true → ((f : ℕ) → (f ≢ x) → b' f ≡ b f) → tally b' n ≡ tally b n + 1
tally_more b b' x n l was is others =
    tally_run b b' x 1 n (λ f u. others f (λ e. omega arith))
    (λ f u v. let e : f ≡ x = omega arith in (ap b e ∙ was, ap b' e ∙ is))
    (λ f u v. others f (λ e. omega arith)) (omega arith)

-- what a row keeps as a place is read
pub distinct_more : (xs : List ℕ) (n : ℕ) → Distinct xs n → listed xs n (slice_index xs n) ≡ false → Distinct xs (n + 1)
distinct_more xs n h e i l =
    ⊎_elim (λ (y : i ≡ n). subst (λ (j : ℕ). listed xs j (slice_index xs j) ≡ false) (sym y) e) (λ o. h i (omega arith)) (cases_eq i n)

pub below_more : (xs : List ℕ) (n m : ℕ) → AllBelow xs n m → slice_index xs n < m → AllBelow xs (n + 1) m
below_more xs n m h e i l =
    ⊎_elim (λ (y : i ≡ n). subst (λ (j : ℕ). slice_index xs j < m) (sym y) e) (λ o. h i (omega arith)) (cases_eq i n)

-- the numbers that a block's frames add
pub added_out : (xs ys : List ℕ) (n first : ℕ) (c : ℕ) → ((i : ℕ) → i < c → slice_index ys (n + i) ≡ first + i)
    → ((i : ℕ) → i < n → slice_index ys i ≡ slice_index xs i) → (f : ℕ) → ((f < first) ⊎ (first + c ≤ f)) → listed ys (n + c) f ≡ listed xs n f
added_out xs ys n first zero new old f o = let e : n + 0 ≡ n = omega arith in rw e (listed_same xs ys n f old)
added_out xs ys n first (suc c) new old f o =
    let e : n + suc c ≡ suc (n + c) = omega arith in
    rw e
    (away ys (n + c) f (λ y. let z = new c (omega arith) in ⊎_elim (λ (l : f < first). omega arith) (λ (g : first + suc c ≤ f). omega arith) o)
    ∙ added_out xs ys n first c (λ i l. new i (omega arith)) old f (⊎_elim (λ (l : f < first). inl l) (λ (g : first + suc c ≤ f). inr (omega arith)) o))

pub added_in : (ys : List ℕ) (n first : ℕ) (c : ℕ) → ((i : ℕ) → i < c → slice_index ys (n + i) ≡ first + i)
    → (f : ℕ) → first ≤ f → f < first + c → listed ys (n + c) f ≡ true
added_in ys n first zero new f a b = absurd (omega arith)
added_in ys n first (suc c) new f a b =
    let e : n + suc c ≡ suc (n + c) = omega arith in
    rw e
    (⊎_elim (λ (y : f ≡ first + c). here ys (n + c) f (new c (omega arith) ∙ sym y))
    (λ (o : f ≡ first + c → ⊥). away ys (n + c) f (λ z. o (sym z ∙ new c (omega arith))) ∙ added_in ys n first c (λ i l. new i (omega arith)) f a (omega arith))
    (cases_eq f (first + c)))

pub added_distinct : (xs ys : List ℕ) (n first c : ℕ) → Appended xs ys n first c → Distinct xs n
    → ((f : ℕ) → first ≤ f → f < first + c → listed xs n f ≡ false) → Distinct ys (n + c)
added_distinct xs ys n first c h d was i l =
    ⊎_elim
    (λ (u : i < n). ap (listed ys i) (h.below i u) ∙ listed_same xs ys i (slice_index xs i) (λ j v. h.below j (omega arith)) ∙ d i u)
    (λ (u : n ≤ i).
    let e : i ≡ n + (i - n) = omega arith in
    let v : slice_index_or ys i 0 ≡ first + (i - n) = ap (λ (j : ℕ). slice_index ys j) e ∙ h.here (i - n) (omega arith) in
    ap (listed ys i) v ∙ ap (λ (j : ℕ). listed ys j (first + (i - n))) e
    ∙ added_out xs ys n first (i - n) (λ j w. h.here j (omega arith)) h.below (first + (i - n)) (inr (omega arith))
    ∙ was (first + (i - n)) (omega arith) (omega arith))
    (cases_lt i n)

pub added_below : (xs ys : List ℕ) (n first c m : ℕ) → Appended xs ys n first c → AllBelow xs n m → first + c ≤ m → AllBelow ys (n + c) m
added_below xs ys n first c m h b r i l =
    ⊎_elim
    (λ (u : i < n). let e = h.below i u in let v = b i u in omega arith)
    (λ (u : n ≤ i).
    let e : i ≡ n + (i - n) = omega arith in
    let v : slice_index_or ys i 0 ≡ first + (i - n) = ap (λ (j : ℕ). slice_index ys j) e ∙ h.here (i - n) (omega arith) in omega arith)
    (cases_lt i n)

-- the row of bits after a block was filled in
pub added_row : (xs ys : List ℕ) (b b' : ℕ → Bool) (n first c : ℕ) → Appended xs ys n first c → ((f : ℕ) → b f ≡ listed xs n f)
    → ((f : ℕ) → first ≤ f → f < first + c → b' f ≡ true) → ((f : ℕ) → f < first → b' f ≡ b f) → ((f : ℕ) → first + c ≤ f → b' f ≡ b f)
    → (f : ℕ) → b' f ≡ listed ys (n + c) f
added_row xs ys b b' n first c h r is lo hi f =
    ⊎_elim
    (λ (l : f < first). lo f l ∙ r f ∙ sym (added_out xs ys n first c h.here h.below f (inl l)))
    (λ (g : first ≤ f).
    ⊎_elim (λ (l : f < first + c). is f g l ∙ sym (added_in ys n first c h.here f g l))
    (λ (u : first + c ≤ f). hi f u ∙ r f ∙ sym (added_out xs ys n first c h.here h.below f (inr u)))
    (cases_lt f (first + c)))
    (cases_lt f first)

pub counted_by : (xs : List ℕ) (b : ℕ → Bool) (n m k : ℕ) → ((f : ℕ) → b f ≡ listed xs n f) → k ≡ tally b m → k ≤ tally (listed xs n) m
counted_by xs b n m k r e = let s = tally_same b (listed xs n) m (λ f l. r f) in omega arith

-- the frame of the last filled place leaves
pub last_joined : (xs : List ℕ) (n b e : ℕ) → 0 < n → Distinct xs n → b ≡ slice_index xs (n - 1) → e ≡ b + 1 → Joined (listed xs (n - 1)) (listed xs n) b e
last_joined xs zero b e z d x y = absurd (omega arith)
last_joined xs (suc m) b e z d x y =
    let p : suc m - 1 ≡ m = omega arith in
    let q : b ≡ slice_index_or xs m 0 = subst (λ (i : ℕ). b ≡ slice_index xs i) p x in
    subst (λ (i : ℕ). Joined (listed xs i) (listed xs (suc m)) b e) (sym p)
    (record {
      was = λ f u v. let r : f ≡ slice_index_or xs m 0 = omega arith in ap (listed xs m) r ∙ d m (omega arith);
      is = λ f u v. here xs m f (omega arith);
      below = λ f u. away xs m f (λ r. omega arith);
      above = λ f u. away xs m f (λ r. omega arith);
    })

-- so there is room for it
pub added_room : (b : ℕ → Bool) (n first c m : ℕ) → n ≡ tally b m → first + c ≤ m → ((f : ℕ) → first ≤ f → f < first + c → b f ≡ false) → n + c ≤ m
added_room b n first c m e l was =
    let q : ℕ → Bool = λ f. b f || (nat_le first f && nat_lt f (first + c)) in
    let t = tally_run b q first c m (λ f u. out f (inl u)) (λ f u v. (was f u v, inside f u v)) (λ f u v. out f (inr u)) l in
    let u = tally_le q m in
    omega (arith, t, u)
  where
    out : (f : ℕ) → ((f < first) ⊎ (first + c ≤ f)) → (b f || (nat_le first f && nat_lt f (first + c))) ≡ b f
    out f o =
        ⊎_elim
        (λ (u : f < first). ap (λ (x : Bool). b f || (x && nat_lt f (first + c))) (lt-leb first f u) ∙ or-false (b f))
        (λ (u : first + c ≤ f). ap (λ (x : Bool). b f || (nat_le first f && x)) (le-ltb f (first + c) u) ∙ ap (λ (x : Bool). b f || x) (and-false (nat_le first f)) ∙ or-false (b f))
        o

    inside : (f : ℕ) → first ≤ f → f < first + c → (b f || (nat_le first f && nat_lt f (first + c))) ≡ true
    inside f u v = ap (λ (x : Bool). b f || (x && nat_lt f (first + c))) (le-leb first f u) ∙ ap (λ (x : Bool). b f || x) (lt-ltb f (first + c) v) ∙ or-true (b f)

pub listed_at : (xs : List ℕ) (n i f : ℕ) → i < n → slice_index xs i ≡ f → listed xs n f ≡ true
listed_at xs zero i f l e = absurd (omega arith)
listed_at xs (suc n) i f l e =
    ⊎_elim (λ (y : slice_index_or xs n 0 ≡ f). here xs n f y)
    (λ (o : slice_index_or xs n 0 ≡ f → ⊥). away xs n f o ∙ ⊎_elim (λ (y : i ≡ n). absurd (o (subst (λ (j : ℕ). slice_index xs j ≡ f) y e))) (λ (u : i ≡ n → ⊥). listed_at xs n i f (omega arith) e) (cases_eq i n))
    (cases_eq (slice_index xs n) f)

-- one number more is written
pub appended_none : (xs : List ℕ) (n first : ℕ) → Appended xs xs n first 0
appended_none xs n first = record { here = λ i l. absurd (omega arith); below = λ i l. refl; above = λ i l. refl }

pub appended_more : (xs ys : List ℕ) (n first c : ℕ) → n + c < length ys → Appended xs ys n first c
    → Appended xs (slice_set ys (n + c) (first + c)) n first (c + 1)
appended_more xs ys n first c r h =
    record {
      here = λ i l.
          ⊎_elim
          (λ (e : i ≡ c). subst (λ (j : ℕ). slice_index (slice_set ys (n + c) (first + c)) (n + j) ≡ first + j) (sym e) (get_or-set_same ys (n + c) (first + c) 0 r))
          (λ (o : i ≡ c → ⊥). get_or-set_other ys (n + c) (n + i) (first + c) 0 (λ e. o (omega arith)) ∙ h.here i (omega arith))
          (cases_eq i c);
      below = λ i l. get_or-set_other ys (n + c) i (first + c) 0 (λ e. omega arith) ∙ h.below i l;
      above = λ i l. get_or-set_other ys (n + c) i (first + c) 0 (λ e. omega arith) ∙ h.above i (omega arith);
    }

-- a block's frames join
pub added_joined : (xs ys : List ℕ) (n first c : ℕ) → Appended xs ys n first c → ((f : ℕ) → first ≤ f → f < first + c → listed xs n f ≡ false)
    → Joined (listed xs n) (listed ys (n + c)) first (first + c)
added_joined xs ys n first c h was =
    record {
      was = was;
      is = λ f u v. added_in ys n first c h.here f u v;
      below = λ f u. added_out xs ys n first c h.here h.below f (inl u);
      above = λ f u. added_out xs ys n first c h.here h.below f (inr u);
    }
