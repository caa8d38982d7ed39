-- Machines unlike in words or limit are told apart: by the word numbered by the smaller W, or by one page more than the smaller
-- limit.
use Rattle.std.proofs.Common.{◌≡◌, ℕ, zero, suc, ◌+◌, ◌*◌, ◌/◌, ◌%◌, ◌<◌, ◌≤◌, Bool, true, false, not, ◌&&◌, ◌⊎◌, List, [], ◌∷◌, get_or, Some, None, Option, sym, refl, ap, ◌∙◌, ap₂, inl, inr, arith}
use Rattle.std.proofs.lemmas.Bool.{cases_lt, cases_order, le-ltb, lt-ltb, le-leb, lt-leb, not_from_true, cond-true, cond-false}
use Rattle.std.proofs.lemmas.Bool.Decides.{nat_tests as ways}
use Rattle.page_machine.specs.Counting.{page_count}
use Rattle.page_machine.specs.Machine.{absent, present, Machine, started, is_present, present_count, zeros, with_page, with_object}
use Rattle.page_machine.specs.Calls.{Call, Open, Load, Reply, word, refused, no_frame}
use Rattle.page_machine.specs.Refusals.{Row, rows, first_of, full, bad_object, not_open, past_size, past_words, no_room}
use Rattle.page_machine.specs.Steps.{Step, tells, step, decided, words_of, brought_in}
use Rattle.page_machine.specs.Runs.{replies}
use Rattle.page_machine.specs.TellingLaws.{AllFit, AlikeReplyAlike, TellApart, UnlikeReplyUnlike}
use Rattle.page_machine.proofs.Sums.{pages_none, pages_more}
use Rattle.page_machine.proofs.Histories.{get_or-zeros}
use Rattle.page_machine.proofs.Lawful.{put_here, put_there, frames_unseen}

pub alike_reply_alike : AlikeReplyAlike
alike_reply_alike w v n k a b e f cs = frames_unseen w n k a cs ∙ ap₂ (λ x y. replies (started x k y) cs) e f

-- a row that does not hold is passed over, one that holds counts

skip_row : (r : Row) (rs : List Row) (x : Option ℕ) → r.holds ≡ false → first_of rs ≡ x → first_of (r ∷ rs) ≡ x
skip_row r rs x e f = cond-false r.holds (Some r.number) (first_of rs) e ∙ f

stop_row : (r : Row) (rs : List Row) → r.holds ≡ true → first_of (r ∷ rs) ≡ Some r.number
stop_row r rs e = cond-true r.holds (Some r.number) (first_of rs) e

-- a load whose object and page are right
module _ (m : Machine) (o p k : ℕ) (ho : o < 4) (hp : p < m.size o) where
  at_page : (x : Option ℕ) → first_of (past_words m k ∷ no_room m o p ∷ []) ≡ x → first_of (rows m (Load o p k)) ≡ x
  at_page x e =
      skip_row (bad_object o) (not_open m o ∷ past_size m o p ∷ past_words m k ∷ no_room m o p ∷ []) x (le-ltb 3 o (omega arith))
      (skip_row (not_open m o) (past_size m o p ∷ past_words m k ∷ no_room m o p ∷ []) x (not_from_true _ (lt-ltb 0 (m.size o) (omega arith)))
      (skip_row (past_size m o p) (past_words m k ∷ no_room m o p ∷ []) x (lt-leb _ _ hp) e))

  load_past_word : m.words ≤ k → step m (Load o p k) ≡ tells (refused 8) m
  load_past_word h =
      ap (λ x. decided x m (Load o p k)) (at_page (Some 8) (stop_row (past_words m k) (no_room m o p ∷ []) (le-leb _ _ h)))

  module _ (hk : k < m.words) (away : m.page o p ≡ absent) where
    no_room_lem : (t : Bool) → full m ≡ t → (no_room m o p).holds ≡ t
    no_room_lem t e = ap (λ x. not (is_present x) && full m) away ∙ e

    load_in : present_count m < m.limit → step m (Load o p k) ≡ tells (word 0) (with_page m o p (present (zeros m) false))
    load_in room =
        ap (λ x. decided x m (Load o p k))
        (at_page None (skip_row (past_words m k) (no_room m o p ∷ []) None (lt-leb _ _ hk)
        (skip_row (no_room m o p) [] None (no_room_lem false (lt-leb _ _ room)) refl)))
        ∙ ap (λ x. tells (word (get_or (words_of m x) k 0)) (brought_in m o p x)) away
        ∙ ap (λ x. tells (word x) (with_page m o p (present (zeros m) false))) (get_or-zeros m.words k)

    load_full : m.limit ≤ present_count m → step m (Load o p k) ≡ tells (no_frame o p) m
    load_full dry =
        ap (λ x. decided x m (Load o p k))
        (at_page (Some 11) (skip_row (past_words m k) (no_room m o p ∷ []) (Some 11) (lt-leb _ _ hk)
        (stop_row (no_room m o p) [] (no_room_lem true (le-leb _ _ dry)))))

-- the load of the page numbered i over the four objects
abbrev place : ℕ → Call
place i = Load (i / 1024) (i % 1024) 0

-- n of them, from i on
unfoldable loads : ℕ → ℕ → List Call
loads i zero = []
loads i (suc n) = place i ∷ loads (suc i) n

loads_fit : (i n : ℕ) → i + n ≤ 4096 → AllFit (loads i n)
unfolding loads
loads_fit i zero h = tt
loads_fit i (suc n) h = ((omega arith, omega arith, omega arith), loads_fit (suc i) n (omega arith))

abbrev opened : ℕ → ℕ → ℕ → Machine
opened w n a = with_object (with_object (with_object (with_object (started w n a) 0 1024) 1 1024) 2 1024) 3 1024

-- four full objects, of which the pages from n on are away
record Loaded (m : Machine) (w a n : ℕ) : Type 0 where
  words : m.words ≡ w
  limit : m.limit ≡ a
  size : (o : ℕ) → o < 4 → m.size o ≡ 1024
  rest : (o p : ℕ) → o < 4 → p < 1024 → n ≤ o * 1024 + p → m.page o p ≡ absent
  count : present_count m ≡ n

none_loaded : (w n a : ℕ) → Loaded (opened w n a) w a 0
unfolding present_count
none_loaded w n a = record {
  words = refl;
  limit = refl;
  size = λ o h. grind (arith, ways);
  rest = λ o p _ _ _. grind (arith, ways);
  count = pages_none _ (λ o p. grind (arith, ways));
}

module _ (m : Machine) (w a n : ℕ) (l : Loaded m w a n) (small : n < 4096) (some : 0 < w) where
  page_in : n % 1024 < m.size (n / 1024)
  page_in = rw (l.size (n / 1024) (omega arith)) (omega arith)

  away : m.page (n / 1024) (n % 1024) ≡ absent
  away = l.rest (n / 1024) (n % 1024) (omega arith) (omega arith) (omega arith)

  after : Machine
  after = with_page m (n / 1024) (n % 1024) (present (zeros m) false)

  one_more : n < a → step m (place n) ≡ tells (word 0) after
  unfolding after
  one_more h = load_in m (n / 1024) (n % 1024) 0 (omega arith) page_in (omega (arith, l.words)) away (omega (arith, l.count, l.limit))

  no_more : n ≡ a → step m (place n) ≡ tells (no_frame (n / 1024) (n % 1024)) m
  no_more h = load_full m (n / 1024) (n % 1024) 0 (omega arith) page_in (omega (arith, l.words)) away (omega (arith, l.count, l.limit))

  loaded_more : Loaded after w a (suc n)
  unfolding after present_count
  loaded_more = record {
    words = l.words;
    limit = l.limit;
    size = l.size;
    rest = λ o p ho hp h. put_there m _ _ _ o p (λ e. omega arith) ∙ l.rest o p ho hp (omega arith);
    count =
        let t : page_count (λ b q. is_present (after.page b q)) ≡ page_count (λ b q. is_present (m.page b q)) + 1
        = pages_more (λ b q. is_present (m.page b q)) (λ b q. is_present (after.page b q)) (n / 1024) (n % 1024) (omega arith) (omega arith)
        (λ b q h. ap is_present (sym (put_there m _ _ _ b q h))) (ap is_present away) (ap is_present (put_here m (n / 1024) (n % 1024) _)) in
        omega (arith, l.count);
  }

replies_tail : (m k : Machine) (c : Call) (cs : List Call) → replies m (c ∷ cs) ≡ replies k (c ∷ cs) → replies (step m c).state cs ≡ replies (step k c).state cs
unfolding replies
replies_tail m k c cs e = cc

replies_head : (m k : Machine) (c : Call) (cs : List Call) → replies m (c ∷ cs) ≡ replies k (c ∷ cs) → (step m c).reply ≡ (step k c).reply
unfolding replies
replies_head m k c cs e = cc

never : (r s : Reply) (o p : ℕ) → r ≡ s → r ≡ no_frame o p → s ≡ word 0 → ⊥
never r s o p e f g = let z : ◌≡◌ {A = ℕ} 0 1 = cc in omega arith

module _ (w v n₁ n₂ a b : ℕ) (hw : 0 < w) (hv : 0 < v) (low : a < b) (small : a < 4096) where
  differ : (n i : ℕ) (m k : Machine) → Loaded m w a i → Loaded k v b i → i + n ≡ a → replies m (loads i (suc n)) ≡ replies k (loads i (suc n)) → ⊥
  unfolding loads
  differ zero i m k l j e same =
      never (step m (place i)).reply (step k (place i)).reply _ _ (replies_head m k (place i) [] same)
      (ap (λ (s : Step). s.reply) (no_more m w a i l (omega arith) hw (omega arith)))
      (ap (λ (s : Step). s.reply) (one_more k v b i j (omega arith) hv (omega arith)))
  differ (suc n) i m k l j e same =
      differ n (suc i) (after m w a i l (omega arith) hw) (after k v b i j (omega arith) hv) (loaded_more m w a i l _ _) (loaded_more k v b i j _ _) (omega arith)
      (sym (ap (λ (s : Step). replies s.state (loads (suc i) (suc n))) (one_more m w a i l _ hw (omega arith)))
      ∙ replies_tail m k (place i) (loads (suc i) (suc n)) same
      ∙ ap (λ (s : Step). replies s.state (loads (suc i) (suc n))) (one_more k v b i j _ hv (omega arith)))

  limits_differ : TellApart w v n₁ n₂ a b
  limits_differ = record {
    calls = Open 0 1024 ∷ Open 1 1024 ∷ Open 2 1024 ∷ Open 3 1024 ∷ loads 0 (suc a);
    fit = ((omega arith, omega arith), ((omega arith, omega arith), ((omega arith, omega arith), ((omega arith, omega arith), loads_fit 0 (suc a) (omega arith)))));
    apart = λ same.
        differ a 0 (opened w n₁ a) (opened v n₂ b) (none_loaded w n₁ a) (none_loaded v n₂ b) (omega arith)
        (replies_tail (with_object (with_object (with_object (started w n₁ a) 0 1024) 1 1024) 2 1024) (with_object (with_object (with_object (started v n₂ b) 0 1024) 1 1024) 2 1024) (Open 3 1024) _
        (replies_tail (with_object (with_object (started w n₁ a) 0 1024) 1 1024) (with_object (with_object (started v n₂ b) 0 1024) 1 1024) (Open 2 1024) _
        (replies_tail (with_object (started w n₁ a) 0 1024) (with_object (started v n₂ b) 0 1024) (Open 1 1024) _
        (replies_tail (started w n₁ a) (started v n₂ b) (Open 0 1024) _ same))));
  }

-- the word numbered by the smaller number of words
module _ (w v n₁ n₂ a b : ℕ) (low : w < v) where
  abbrev one_page : ℕ → ℕ → ℕ → Machine
  one_page x n y = with_object (started x n y) 0 1

  not_eight : (r s : Reply) → r ≡ s → r ≡ refused 8 → (s ≡ word 0) ⊎ (s ≡ no_frame 0 0) → ⊥
  not_eight r s e f (inl g) = let z : ◌≡◌ {A = ℕ} 0 1 = cc in omega arith
  not_eight r s e f (inr g) = let z : ◌≡◌ {A = ℕ} 0 1 = cc in omega arith

  told : ((step (one_page v n₂ b) (Load 0 0 w)).reply ≡ word 0) ⊎ ((step (one_page v n₂ b) (Load 0 0 w)).reply ≡ no_frame 0 0)
  told = elim (cases_lt (present_count (one_page v n₂ b)) b) [
    | inl h ↦ inl (ap (λ (s : Step). s.reply) (load_in (one_page v n₂ b) 0 0 w (omega arith) (omega arith) low refl h))
    | inr h ↦ inr (ap (λ (s : Step). s.reply) (load_full (one_page v n₂ b) 0 0 w (omega arith) (omega arith) low refl h))
  ]

  words_differ : w ≤ 2048 → TellApart w v n₁ n₂ a b
  words_differ h = record {
    calls = Open 0 1 ∷ Load 0 0 w ∷ [];
    fit = ((omega arith, omega arith), ((omega arith, omega arith, omega arith), tt));
    apart = λ same.
        not_eight _ _ (replies_head (one_page w n₁ a) (one_page v n₂ b) (Load 0 0 w) [] (replies_tail (started w n₁ a) (started v n₂ b) (Open 0 1) _ same))
        (ap (λ (s : Step). s.reply) (load_past_word (one_page w n₁ a) 0 0 w (omega arith) (omega arith) (omega arith))) told;
  }

-- the other way round
swapped : {w v n k a b : ℕ} → TellApart v w k n b a → TellApart w v n k a b
swapped t = record { calls = t.calls; fit = t.fit; apart = λ e. t.apart (sym e) }

pub unlike_reply_unlike : UnlikeReplyUnlike
unlike_reply_unlike w v n k a b hw hv lw lv ha hb ne = elim (cases_order w v) [
  | inr (inl h) ↦ words_differ w v n k a b h lw
  | inr (inr h) ↦ swapped (words_differ v w k n b a h lv)
  | inl e ↦ elim (cases_order a b) [
    | inl f ↦ absurd (ne (e, f))
    | inr (inl h) ↦ limits_differ w v n k a b hw hv h (omega arith)
    | inr (inr h) ↦ swapped (limits_differ v w k n b a hv hw h (omega arith))
  ]
]
