-- What a run leaves in the pages, told from its accepted calls.
use Rattle.std.proofs.Common.{◌≡◌, ℕ, zero, suc, ◌<◌, Bool, true, false, cond, ◌&&◌, eqb, List, [], ◌∷◌, length, get_or, set, replicate, Some, None, Option, sym, refl, ap, ◌∙◌, ap₂, arith, length-set, get_or-set_other, get_or-set_same}
use Rattle.std.proofs.lemmas.Bool.{not_from_true, not_from_false, eq-eqb, ne_eqb, cond-true, cond-false, and_parts, eqb-true, eqb-false, false≢true}
use Rattle.page_machine.specs.Machine.{Page, absent, present, Machine, started, is_present, is_stored, zeros, with_page, with_pages, with_object}
use Rattle.page_machine.specs.Calls.{Call, Open, Load, Store, Release, Flush, Close, word, refused, no_frame}
use Rattle.page_machine.specs.Refusals.{rows, first_of}
use Rattle.page_machine.specs.Steps.{step, decided, accepted, words_of, brought_in, unstored}
use Rattle.page_machine.specs.Runs.{after}
use Rattle.page_machine.specs.Histories.{joins, history, last_stored, stored_to, accepts}
use Rattle.page_machine.specs.RunLaws.{LoadsLastStored, StoredSinceFlush, RefusalsKeep, MemoryFits, MemoryMisfits}
use Rattle.page_machine.proofs.Stepping.{opens, loads, stores}

pub length_zeros : (w : ℕ) → length (replicate {A = ℕ} w 0) ≡ w
length_zeros zero = refl
length_zeros (suc w) = ap suc (length_zeros w)

pub get_or-zeros : (w k : ℕ) → get_or {A = ℕ} (replicate w 0) k 0 ≡ 0
get_or-zeros zero k = refl
get_or-zeros (suc w) zero = refl
get_or-zeros (suc w) (suc k) = get_or-zeros w k

record Told (m : Machine) (hs : List Call) : Type 0 where
  long : (o p : ℕ) → length (words_of m (m.page o p)) ≡ m.words
  below : (o p : ℕ) → is_present (m.page o p) ≡ true → p < m.size o
  words : (o p k : ℕ) → get_or (words_of m (m.page o p)) k 0 ≡ last_stored hs o p k
  marks : (o p : ℕ) → is_stored (m.page o p) ≡ stored_to hs o p

-- a page of an object that is not open is absent
closed_absent : (m : Machine) (o p : ℕ) → (is_present (m.page o p) ≡ true → p < m.size o) → m.size o ≡ 0 → m.page o p ≡ absent
closed_absent m o p below e = go (m.page o p) refl
  where
    go : (x : Page) → m.page o p ≡ x → m.page o p ≡ absent
    go absent f = f
    go (present ws s) f = absurd (let z : p < m.size o = below (ap is_present f) in omega arith)

same_page : (o p b q : ℕ) → (eqb o b && eqb p q) ≡ true → (o ≡ b) × (p ≡ q)
same_page o p b q e = let w = and_parts (eqb o b) (eqb p q) e in (eqb-true o b w.0, eqb-true p q w.1)

words_of-unstored : (m : Machine) (x : Page) → words_of m (unstored x) ≡ words_of m x
words_of-unstored m absent = refl
words_of-unstored m (present ws s) = refl

pub is_present-unstored : (x : Page) → is_present (unstored x) ≡ is_present x
is_present-unstored absent = refl
is_present-unstored (present ws s) = refl

is_stored-unstored : (x : Page) → is_stored (unstored x) ≡ false
is_stored-unstored absent = refl
is_stored-unstored (present ws s) = refl

module _ (m : Machine) (hs : List Call) (g : Told m hs) where
  opened : (b n : ℕ) → m.size b ≡ 0 → Told (with_object m b n) (Open b n ∷ hs)
  opened b n closed = record {
    long = λ o p. ap (λ x. length (words_of m x)) (same o p) ∙ g.long o p;
    below = λ o p e. deep o p (eqb o b) refl e;
    words = λ o p k. ap (λ x. get_or (words_of m x) k 0) (same o p) ∙ g.words o p k;
    marks = λ o p. ap is_stored (same o p) ∙ g.marks o p;
  }
    where
      at : (o p : ℕ) (t : Bool) → eqb o b ≡ t → cond t absent (m.page o p) ≡ m.page o p
      at o p false e = refl
      at o p true e = sym (closed_absent m o p (g.below o p) (ap m.size (eqb-true o b e) ∙ closed))

      same : (o p : ℕ) → cond (eqb o b) absent (m.page o p) ≡ m.page o p
      same o p = at o p (eqb o b) refl

      deep : (o p : ℕ) (t : Bool) → eqb o b ≡ t → is_present (cond t absent (m.page o p)) ≡ true → p < cond t n (m.size o)
      deep o p false e h = g.below o p h
      deep o p true e h = absurd (false≢true h)

  closed : (b : ℕ) → Told (with_object m b 0) (Close b ∷ hs)
  closed b = record {
    long = λ o p. long o p (eqb o b);
    below = λ o p. below o p (eqb o b);
    words = λ o p k. words o p k (eqb o b);
    marks = λ o p. marks o p (eqb o b);
  }
    where
      long : (o p : ℕ) (t : Bool) → length (words_of m (cond t absent (m.page o p))) ≡ m.words
      long o p false = g.long o p
      long o p true = length_zeros m.words

      below : (o p : ℕ) (t : Bool) → is_present (cond t absent (m.page o p)) ≡ true → p < cond t 0 (m.size o)
      below o p false h = g.below o p h
      below o p true h = absurd (false≢true h)

      words : (o p k : ℕ) (t : Bool) → get_or (words_of m (cond t absent (m.page o p))) k 0 ≡ cond t 0 (last_stored hs o p k)
      words o p k false = g.words o p k
      words o p k true = get_or-zeros m.words k

      marks : (o p : ℕ) (t : Bool) → is_stored (cond t absent (m.page o p)) ≡ cond t false (stored_to hs o p)
      marks o p false = g.marks o p
      marks o p true = refl

  released : (b q : ℕ) → Told (with_page m b q absent) (Release b q ∷ hs)
  released b q = record {
    long = λ o p. long o p (eqb o b && eqb p q);
    below = λ o p. below o p (eqb o b && eqb p q);
    words = λ o p k. words o p k (eqb o b && eqb p q);
    marks = λ o p. marks o p (eqb o b && eqb p q);
  }
    where
      long : (o p : ℕ) (t : Bool) → length (words_of m (cond t absent (m.page o p))) ≡ m.words
      long o p false = g.long o p
      long o p true = length_zeros m.words

      below : (o p : ℕ) (t : Bool) → is_present (cond t absent (m.page o p)) ≡ true → p < m.size o
      below o p false h = g.below o p h
      below o p true h = absurd (false≢true h)

      words : (o p k : ℕ) (t : Bool) → get_or (words_of m (cond t absent (m.page o p))) k 0 ≡ cond t 0 (last_stored hs o p k)
      words o p k false = g.words o p k
      words o p k true = get_or-zeros m.words k

      marks : (o p : ℕ) (t : Bool) → is_stored (cond t absent (m.page o p)) ≡ cond t false (stored_to hs o p)
      marks o p false = g.marks o p
      marks o p true = refl

  flushed : (b : ℕ) (list : List ℕ) → Told (with_pages m b (λ p. unstored (m.page b p))) (Flush b list ∷ hs)
  flushed b list = record {
    long = λ o p. ap length (same o p (eqb o b) refl) ∙ g.long o p;
    below = λ o p h. below o p (eqb o b) refl h;
    words = λ o p k. ap (λ ws. get_or ws k 0) (same o p (eqb o b) refl) ∙ g.words o p k;
    marks = λ o p. marks o p (eqb o b);
  }
    where
      same : (o p : ℕ) (t : Bool) → eqb o b ≡ t → words_of m (cond t (unstored (m.page b p)) (m.page o p)) ≡ words_of m (m.page o p)
      same o p false e = refl
      same o p true e = words_of-unstored m (m.page b p) ∙ ap (λ c. words_of m (m.page c p)) (sym (eqb-true o b e))

      below : (o p : ℕ) (t : Bool) → eqb o b ≡ t → is_present (cond t (unstored (m.page b p)) (m.page o p)) ≡ true → p < m.size o
      below o p false e h = g.below o p h
      below o p true e h = g.below o p (ap (λ c. is_present (m.page c p)) (eqb-true o b e) ∙ sym (is_present-unstored (m.page b p)) ∙ h)

      marks : (o p : ℕ) (t : Bool) → is_stored (cond t (unstored (m.page b p)) (m.page o p)) ≡ cond t false (stored_to hs o p)
      marks o p false = g.marks o p
      marks o p true = is_stored-unstored (m.page b p)

  loaded : (b q j : ℕ) → q < m.size b → (x : Page) → m.page b q ≡ x → Told (brought_in m b q x) (Load b q j ∷ hs)
  loaded b q j low (present ws s) e = record { long = g.long; below = g.below; words = g.words; marks = g.marks }
  loaded b q j low absent e = record {
    long = λ o p. ap length (same o p (eqb o b && eqb p q) refl) ∙ g.long o p;
    below = λ o p h. below o p (eqb o b && eqb p q) refl h;
    words = λ o p k. ap (λ ws. get_or ws k 0) (same o p (eqb o b && eqb p q) refl) ∙ g.words o p k;
    marks = λ o p. marks o p (eqb o b && eqb p q) refl ∙ g.marks o p;
  }
    where
      new : Page
      new = present (zeros m) false

      old : (o p : ℕ) → (eqb o b && eqb p q) ≡ true → m.page o p ≡ absent
      old o p t = let w = same_page o p b q t in ap₂ m.page w.0 w.1 ∙ e

      same : (o p : ℕ) (t : Bool) → (eqb o b && eqb p q) ≡ t → words_of m (cond t (present (zeros m) false) (m.page o p)) ≡ words_of m (m.page o p)
      same o p false t = refl
      same o p true t = sym (ap (words_of m) (old o p t))

      below : (o p : ℕ) (t : Bool) → (eqb o b && eqb p q) ≡ t → is_present (cond t (present (zeros m) false) (m.page o p)) ≡ true → p < m.size o
      below o p false t h = g.below o p h
      below o p true t h = let w = same_page o p b q t in let z : m.size o ≡ m.size b = ap m.size w.0 in omega (arith, w.1)

      marks : (o p : ℕ) (t : Bool) → (eqb o b && eqb p q) ≡ t → is_stored (cond t (present (zeros m) false) (m.page o p)) ≡ is_stored (m.page o p)
      marks o p false t = refl
      marks o p true t = sym (ap is_stored (old o p t))

  stored : (b q j x : ℕ) → q < m.size b → j < m.words → Told (with_page m b q (present (set (words_of m (m.page b q)) j x) true)) (Store b q j x ∷ hs)
  stored b q j x low small = record {
    long = λ o p. long o p (eqb o b && eqb p q);
    below = λ o p h. below o p (eqb o b && eqb p q) refl h;
    words = λ o p k. words o p k (eqb o b && eqb p q) refl;
    marks = λ o p. marks o p (eqb o b && eqb p q);
  }
    where
      long : (o p : ℕ) (t : Bool) → length (words_of m (cond t (present (set (words_of m (m.page b q)) j x) true) (m.page o p))) ≡ m.words
      long o p false = g.long o p
      long o p true = length-set (words_of m (m.page b q)) j x ∙ g.long b q

      below : (o p : ℕ) (t : Bool) → (eqb o b && eqb p q) ≡ t → is_present (cond t (present (set (words_of m (m.page b q)) j x) true) (m.page o p)) ≡ true → p < m.size o
      below o p false t h = g.below o p h
      below o p true t h = let w = same_page o p b q t in let z : m.size o ≡ m.size b = ap m.size w.0 in omega (arith, w.1)

      at : (k : ℕ) (t : Bool) → eqb k j ≡ t → get_or (set (words_of m (m.page b q)) j x) k 0 ≡ cond t x (last_stored hs b q k)
      at k true e =
          let inside : j < length (words_of m (m.page b q)) = omega (arith, g.long b q) in
          ap (λ n. get_or (set (words_of m (m.page b q)) j x) n 0) (eqb-true k j e) ∙ get_or-set_same (words_of m (m.page b q)) j x 0 inside
      at k false e = get_or-set_other (words_of m (m.page b q)) j k x 0 (eqb-false k j e) ∙ g.words b q k

      words : (o p k : ℕ) (t : Bool) → (eqb o b && eqb p q) ≡ t →
          get_or (words_of m (cond t (present (set (words_of m (m.page b q)) j x) true) (m.page o p))) k 0 ≡ cond (t && eqb k j) x (last_stored hs o p k)
      words o p k false t = g.words o p k
      words o p k true t =
          let w = same_page o p b q t in
          at k (eqb k j) refl ∙ ap₂ (λ c r. cond (eqb k j) x (last_stored hs c r k)) (sym w.0) (sym w.1)

      marks : (o p : ℕ) (t : Bool) → is_stored (cond t (present (set (words_of m (m.page b q)) j x) true) (m.page o p)) ≡ cond t true (stored_to hs o p)
      marks o p false = g.marks o p
      marks o p true = refl

told_accepted : (m : Machine) (hs : List Call) → Told m hs → (c : Call) → first_of (rows m c) ≡ None → Told (accepted m c).state (c ∷ hs)
told_accepted m hs g (Open b n) e = opened m hs g b n (opens m b n e).closed
told_accepted m hs g (Load b q j) e = loaded m hs g b q j (loads m b q j e).page (m.page b q) refl
told_accepted m hs g (Store b q j x) e = let w = stores m b q j x e in stored m hs g b q j x w.page w.word
told_accepted m hs g (Release b q) e = released m hs g b q
told_accepted m hs g (Flush b list) e = flushed m hs g b list
told_accepted m hs g (Close b) e = closed m hs g b

told_step : (m : Machine) (hs : List Call) → Told m hs → (c : Call) → Told (step m c).state (joins (first_of (rows m c)) c hs)
told_step m hs g c = go (first_of (rows m c)) refl
  where
    go : (x : Option ℕ) → first_of (rows m c) ≡ x → Told (decided x m c).state (joins x c hs)
    go None e = told_accepted m hs g c e
    go (Some n) e = g

told_run : (m : Machine) (hs : List Call) → Told m hs → (cs : List Call) → Told (after m cs) (history m cs hs)
unfolding after history
told_run m hs g [] = g
told_run m hs g (c ∷ cs) = told_run (step m c).state _ (told_step m hs g c) cs

told : (w n a : ℕ) (cs : List Call) → Told (after (started w n a) cs) (accepts w n a cs)
told w n a cs = told_run (started w n a) []
    (record { long = λ o p. length_zeros w; below = λ o p e. absurd (false≢true e); words = λ o p k. get_or-zeros w k; marks = λ o p. refl }) cs

refusal_no_word : (n o p k x : ℕ) (t : Bool) → cond t (no_frame o p) (refused n) ≡ word x → ⊥
refusal_no_word n o p k x true e = let z : ◌≡◌ {A = ℕ} 0 1 = cc in omega arith
refusal_no_word n o p k x false e = let z : ◌≡◌ {A = ℕ} 0 1 = cc in omega arith

word_is : (x y : ℕ) → word x ≡ word y → x ≡ y
word_is x y e = cc

load_tells : (m : Machine) (o p k x : ℕ) → (step m (Load o p k)).reply ≡ word x → get_or (words_of m (m.page o p)) k 0 ≡ x
load_tells m o p k x e = go (first_of (rows m (Load o p k))) e
  where
    go : (y : Option ℕ) → (decided y m (Load o p k)).reply ≡ word x → get_or (words_of m (m.page o p)) k 0 ≡ x
    go None f = word_is _ _ f
    go (Some n) f = absurd (refusal_no_word n o p k x (eqb n 11) f)

pub loads_last_stored : LoadsLastStored
loads_last_stored w n a cs o p k x e = sym (load_tells (after (started w n a) cs) o p k x e) ∙ (told w n a cs).words o p k

pub stored_since_flush : StoredSinceFlush
stored_since_flush w n a cs o p = (told w n a cs).marks o p

pub refusals_keep : RefusalsKeep
refusals_keep m c n e = (ap (λ x. (decided x m c).reply) e, ap (λ x. (decided x m c).state) e)

pub memory_fits : MemoryFits
memory_fits m length (Open o n) e = refl
memory_fits m length (Load o p k) e = ap (λ x. decided x m (Load o p k)) (cond-false _ _ _ (not_from_true _ (eq-eqb _ _ e)))
memory_fits m length (Store o p k x) e = ap (λ y. decided y m (Store o p k x)) (cond-false _ _ _ (not_from_true _ (eq-eqb _ _ e)))
memory_fits m length (Release o p) e = refl
memory_fits m length (Flush o list) e = refl
memory_fits m length (Close o) e = refl

pub memory_misfits : MemoryMisfits
memory_misfits m length n = record {
  load = λ o p k. ap (λ x. decided x m (Load o p k)) (cond-true _ _ _ (not_from_false _ (ne_eqb _ _ n)));
  store = λ o p k x. ap (λ y. decided y m (Store o p k x)) (cond-true _ _ _ (not_from_false _ (ne_eqb _ _ n)));
}
