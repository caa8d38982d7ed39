-- What holds of the machine after every run, and that replies tell nothing of the number of frames.
use Rattle.std.proofs.Common.{◌≡◌, ℕ, ◌+◌, ◌<◌, ◌≤◌, Bool, true, false, cond, not, ◌&&◌, eqb, List, [], ◌∷◌, set, Some, None, Option, sym, refl, ap, ◌∙◌, subst, ap₂, inl, inr, arith}
use Rattle.std.proofs.lemmas.Bool.{cases_Bool, and_parts, and_from, and_left, and_right, cases_eq, eqb-true, eq-eqb, ne_eqb, leb-false, cond-true, cond-false, false≢true}
use Rattle.page_machine.specs.Counting.{page_count}
use Rattle.page_machine.specs.Machine.{Page, absent, present, Machine, started, is_present, present_count, with_page, with_object}
use Rattle.page_machine.specs.Calls.{Call, Open, Load, Store, Release, Flush, Close}
use Rattle.page_machine.specs.Refusals.{rows, first_of, full}
use Rattle.page_machine.specs.Steps.{Step, step, decided, accepted, words_of, brought_in, unstored}
use Rattle.page_machine.specs.Runs.{replies, after}
use Rattle.page_machine.specs.RunLaws.{Lawful, StaysLawful, FramesUnseen}
use Rattle.page_machine.proofs.Sums.{pages_le, pages_more, pages_none}
use Rattle.page_machine.proofs.Stepping.{by_step, opens, loads, stores, releases}
use Rattle.page_machine.proofs.Histories.{is_present-unstored}

-- one page of one object put
pub put_here : (m : Machine) (o p : ℕ) (x : Page) → (with_page m o p x).page o p ≡ x
put_here m o p x = cond-true (eqb o o && eqb p p) _ _ (and_from _ _ (eq-eqb o o refl) (eq-eqb p p refl))

pub put_there : (m : Machine) (o p : ℕ) (x : Page) (b q : ℕ) → ((b ≡ o) × (q ≡ p) → ⊥) → (with_page m o p x).page b q ≡ m.page b q
put_there m o p x b q n = cond-false (eqb b o && eqb q p) _ _ (elim (cases_eq b o) [
  | inl e ↦ and_right _ _ (ne_eqb q p (λ f. n (e, f)))
  | inr e ↦ and_left _ _ (ne_eqb b o e)
])

-- the same sizes and limit, and no page more
fewer : (m : Machine) (f : ℕ → ℕ → Page) → Lawful m → ((b q : ℕ) → is_present (f b q) ≡ true → is_present (m.page b q) ≡ true) →
    Lawful (record { words = m.words; frames = m.frames; limit = m.limit; size = m.size; page = f })
unfolding present_count
fewer m f l h = record {
  room = omega (arith, pages_le (λ b q. is_present (f b q)) (λ b q. is_present (m.page b q)) h, l.room);
  sizes = l.sizes;
  below = λ b q e. l.below b q (h b q e);
}

-- an object opened or closed
reset : (m : Machine) (o n : ℕ) → Lawful m → n ≤ 1024 → Lawful (with_object m o n)
unfolding present_count
reset m o n l h = record {
  room = omega (arith, pages_le (λ b q. is_present (cond (eqb b o) absent (m.page b q))) (λ b q. is_present (m.page b q)) (λ b q e. old b q (eqb b o) e), l.room);
  sizes = λ b. small b (eqb b o);
  below = λ b q e. deep b q (eqb b o) e;
}
  where
    old : (b q : ℕ) (t : Bool) → is_present (cond t absent (m.page b q)) ≡ true → is_present (m.page b q) ≡ true
    old b q true e = absurd (false≢true e)
    old b q false e = e

    small : (b : ℕ) (t : Bool) → cond t n (m.size b) ≤ 1024
    small b true = h
    small b false = l.sizes b

    deep : (b q : ℕ) (t : Bool) → is_present (cond t absent (m.page b q)) ≡ true → (b < 4) × (q < cond t n (m.size b))
    deep b q true e = absurd (false≢true e)
    deep b q false e = l.below b q e

-- an absent page brought in, with room for it
brought : (m : Machine) (o p : ℕ) (x : Page) → Lawful m → o < 4 → p < m.size o → m.page o p ≡ absent → is_present x ≡ true → full m ≡ false → Lawful (with_page m o p x)
unfolding present_count
brought m o p x l ho hp away is room =
    let n : Machine = with_page m o p x in
    let k : page_count (λ b q. is_present (n.page b q)) ≡ page_count (λ b q. is_present (m.page b q)) + 1
    = pages_more (λ b q. is_present (m.page b q)) (λ b q. is_present (n.page b q)) o p ho (omega (arith, l.sizes o))
    (λ b q h. ap is_present (sym (put_there m o p x b q h))) (ap is_present away) (ap is_present (put_here m o p x) ∙ is) in
    record {
      room = omega (arith, leb-false m.limit (present_count m) room);
      sizes = l.sizes;
      below = λ b q e. elim (cases_Bool (eqb b o && eqb q p)) [
        | inl y ↦
            let w = and_parts (eqb b o) (eqb q p) y in
            let u : b ≡ o = eqb-true b o w.0 in
            let v : q ≡ p = eqb-true q p w.1 in
            (omega arith, subst (λ (z : ℕ). q < m.size z) (sym u) (omega arith))
        | inr y ↦ l.below b q (sym (ap is_present (cond-false (eqb b o && eqb q p) x (m.page b q) y)) ∙ e)
      ];
    }

-- a page there changed, or let go
changed : (m : Machine) (o p : ℕ) (x : Page) → Lawful m → is_present (m.page o p) ≡ true → Lawful (with_page m o p x)
changed m o p x l is = fewer m _ l (λ b q e. elim (cases_Bool (eqb b o && eqb q p)) [
  | inl y ↦
      let w = and_parts (eqb b o) (eqb q p) y in
      ap₂ (λ c r. is_present (m.page c r)) (eqb-true b o w.0) (eqb-true q p w.1) ∙ is
  | inr y ↦ sym (ap is_present (cond-false (eqb b o && eqb q p) x (m.page b q) y)) ∙ e
])

-- room for an absent page
spare : (m : Machine) (o p : ℕ) → (not (is_present (m.page o p)) && full m) ≡ false → m.page o p ≡ absent → full m ≡ false
spare m o p r e = sym (ap (λ x. not (is_present x) && full m) e) ∙ r

loaded : (m : Machine) (o p : ℕ) → Lawful m → o < 4 → p < m.size o → (not (is_present (m.page o p)) && full m) ≡ false → (x : Page) → m.page o p ≡ x → Lawful (brought_in m o p x)
loaded m o p l ho hp r absent e = brought m o p _ l ho hp e refl (spare m o p r e)
loaded m o p l ho hp r (present ws s) e = l

stored : (m : Machine) (o p : ℕ) (ws : List ℕ) → Lawful m → o < 4 → p < m.size o → (not (is_present (m.page o p)) && full m) ≡ false → (x : Page) → m.page o p ≡ x → Lawful (with_page m o p (present ws true))
stored m o p ws l ho hp r absent e = brought m o p _ l ho hp e refl (spare m o p r e)
stored m o p ws l ho hp r (present vs s) e = changed m o p _ l (ap is_present e)

accepted_lawful : (m : Machine) (c : Call) → Lawful m → first_of (rows m c) ≡ None → Lawful (accepted m c).state
accepted_lawful m (Open o n) l e = reset m o n l (opens m o n e).most
accepted_lawful m (Load o p k) l e = let w = loads m o p k e in loaded m o p l w.object w.page w.room (m.page o p) refl
accepted_lawful m (Store o p k x) l e =
    let w = stores m o p k x e in stored m o p (set (words_of m (m.page o p)) k x) l w.object w.page w.room (m.page o p) refl
accepted_lawful m (Release o p) l e = changed m o p absent l (releases m o p e).1
accepted_lawful m (Flush o list) l e = fewer m (λ b q. cond (eqb b o) (unstored (m.page o q)) (m.page b q)) l (λ b q h. at b q (eqb b o) refl h)
  where
    at : (b q : ℕ) (t : Bool) → eqb b o ≡ t → is_present (cond t (unstored (m.page o q)) (m.page b q)) ≡ true → is_present (m.page b q) ≡ true
    at b q true y h = ap (λ c. is_present (m.page c q)) (eqb-true b o y) ∙ sym (is_present-unstored (m.page o q)) ∙ h
    at b q false y h = h
accepted_lawful m (Close o) l e = reset m o 0 l (omega arith)

after_lawful : (m : Machine) (cs : List Call) → Lawful m → Lawful (after m cs)
unfolding after
after_lawful m [] l = l
after_lawful m (c ∷ cs) l = after_lawful (step m c).state cs (by_step m c (λ s. Lawful s.state) (λ _ _. l) (accepted_lawful m c l))

pub stays_lawful : StaysLawful
unfolding present_count
stays_lawful w n a cs = after_lawful (started w n a) cs
    (record { room = omega (arith, pages_none (λ _ _. false) (λ _ _. refl)); sizes = λ o. omega arith; below = λ o p e. absurd (false≢true e) })

-- the number of frames

abbrev reframe : ℕ → Machine → Machine
reframe n m = record { words = m.words; frames = n; limit = m.limit; size = m.size; page = m.page }

reframe_in : (n : ℕ) (m : Machine) (o p : ℕ) (x : Page) → brought_in (reframe n m) o p x ≡ reframe n (brought_in m o p x)
reframe_in n m o p absent = refl
reframe_in n m o p (present ws s) = refl

reframe_words : (n : ℕ) (m : Machine) (x : Page) → words_of (reframe n m) x ≡ words_of m x
reframe_words n m absent = refl
reframe_words n m (present ws s) = refl

record Alike (n : ℕ) (s t : Step) : Type 0 where
  reply : t.reply ≡ s.reply
  state : t.state ≡ reframe n s.state

reframe_accepted : (n : ℕ) (m : Machine) (c : Call) → Alike n (accepted m c) (accepted (reframe n m) c)
reframe_accepted n m (Open o k) = record { reply = refl; state = refl }
reframe_accepted n m (Load o p k) = record {
  reply = ap (λ ws. Rattle.page_machine.specs.Calls.word (lib.ListN.get_or ws k 0)) (reframe_words n m (m.page o p));
  state = reframe_in n m o p (m.page o p);
}
reframe_accepted n m (Store o p k x) = record {
  reply = refl;
  state = ap (λ ws. with_page (reframe n m) o p (present (set ws k x) true)) (reframe_words n m (m.page o p));
}
reframe_accepted n m (Release o p) = record { reply = refl; state = refl }
reframe_accepted n m (Flush o list) = record { reply = refl; state = refl }
reframe_accepted n m (Close o) = record { reply = refl; state = refl }

reframe_decided : (n : ℕ) (m : Machine) (x : Option ℕ) (c : Call) → Alike n (decided x m c) (decided x (reframe n m) c)
reframe_decided n m None c = reframe_accepted n m c
reframe_decided n m (Some k) c = record { reply = refl; state = refl }

same_rows : (n : ℕ) (m : Machine) (c : Call) → rows (reframe n m) c ≡ rows m c
unfolding present_count
same_rows n m (Open o k) = refl
same_rows n m (Load o p k) = refl
same_rows n m (Store o p k x) = refl
same_rows n m (Release o p) = refl
same_rows n m (Flush o list) = refl
same_rows n m (Close o) = refl

reframe_step : (n : ℕ) (m : Machine) (c : Call) → Alike n (step m c) (step (reframe n m) c)
reframe_step n m c =
    let d = reframe_decided n m (first_of (rows m c)) c in
    let e : first_of (rows (reframe n m) c) ≡ first_of (rows m c) = ap first_of (same_rows n m c) in
    record {
      reply = ap (λ x. (decided x (reframe n m) c).reply) e ∙ d.reply;
      state = ap (λ x. (decided x (reframe n m) c).state) e ∙ d.state;
    }

reframe_replies : (n : ℕ) (m : Machine) (cs : List Call) → replies (reframe n m) cs ≡ replies m cs
unfolding replies
reframe_replies n m [] = refl
reframe_replies n m (c ∷ cs) =
    let d = reframe_step n m c in
    ap₂ ◌∷◌ d.reply (ap (λ k. replies k cs) d.state ∙ reframe_replies n (step m c).state cs)

pub frames_unseen : FramesUnseen
frames_unseen w n k a cs = reframe_replies n (started w k a) cs
