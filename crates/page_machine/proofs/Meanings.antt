-- Placement in the page machine that the places stand for.
use Rattle.std.proofs.Common.{◌≡◌, ℕ, Bool, true, false, cond, ◌&&◌, eqb, List, is_some, Some, None, Option, sym, refl, ap, ◌∙◌, ap₂, arith}
use Rattle.std.proofs.lemmas.Bool.{and_parts, and_from, eqb-true, eq-eqb, ne_eqb, le-leb, lt-leb, cond-true, cond-false}
use Rattle.page_machine.specs.Counting.{page_count}
use Rattle.page_machine.specs.Machine.{Page, absent, present, Machine, is_present, present_count}
use Rattle.page_machine.specs.Steps.{unstored}
use Rattle.page_machine.specs.Leaves.{Home, home, Homes, mark, unmark}
use Rattle.page_machine.specs.Reservations.{reserved_frame}
use Rattle.page_machine.specs.Claims.{Places, claim_of, claim}
use Rattle.page_machine.specs.Placement.{in_frame, nowhere, stored}
use Rattle.page_machine.specs.Invariant.{Sound}
use Rattle.page_machine.specs.PlacementLaws.{resize}
use Rattle.page_machine.specs.Meaning.{Memory, written, page_of}
use Rattle.page_machine.specs.MeaningLaws.{CountsPresent, BringsInIfRoom, NowhereIfFull, BringsInPage, StoresToPage, ReleasesPage, FlushesObject, ClosesObject, OpensObject}
use Rattle.page_machine.proofs.Keeping.{rehome_here}
use Rattle.page_machine.proofs.Bringing.{bringing_in}
use Rattle.page_machine.proofs.Releases.{releasing, closing, storing, flushing}

present_page : (memory : Memory) (x : Option Home) → is_present (page_of memory x) ≡ is_some x
present_page memory None = refl
present_page memory (Some x) = refl

pub counts_present : CountsPresent
unfolding present_count
counts_present w n size s memory = ap (λ (t : ℕ → ℕ → Bool). page_count t) (λ i o p. present_page memory (s.homes o p) i)

pub brings_in_if_room : BringsInIfRoom
brings_in_if_room sizes size m o p f s t so ho hp away b w n memory =
    let r = bringing_in sizes size m o p s t (in_frame f) so ho hp away b in
    lt-leb _ _ (omega (arith, r.outcome.1, counts_present w n size s memory))

pub nowhere_if_full : NowhereIfFull
nowhere_if_full sizes size m o p d s t so ho hp away b w n memory =
    let r = bringing_in sizes size m o p s t (nowhere d) so ho hp away b in
    le-leb _ _ (omega (arith, r.outcome.1, counts_present w n size s memory))

-- machines alike but for their pages and limits
alike : (w n : ℕ) (size : ℕ → ℕ) (a b : ℕ) (f g : ℕ → ℕ → Page) → a ≡ b → ((o p : ℕ) → f o p ≡ g o p) →
    ◌≡◌ {A = Machine} (record { words = w; frames = n; limit = a; size = size; page = f }) (record { words = w; frames = n; limit = b; size = size; page = g })
alike w n size a b f g e h = λ i. record { words = w; frames = n; limit = e i; size = size; page = λ o p. h o p i }

-- a page in another frame keeps its words
page_kept : (memory : Memory) (f : ℕ) (ws : List ℕ) (x : Option Home) → ((y : Home) → x ≡ Some y → y.frame ≡ f → ⊥) → page_of (written memory f ws) x ≡ page_of memory x
page_kept memory f ws None k = refl
page_kept memory f ws (Some y) k = ap (λ vs. present vs y.stored) (cond-false (eqb y.frame f) ws (memory y.frame) (ne_eqb _ _ (k y refl)))

-- with f the frame of the page p of o, in homes that are apart, writing f changes that page alone
page_written : (sizes : List ℕ) (size : ℕ → ℕ) (t : Places) → Sound sizes size t → (o p f : ℕ) (m : Bool) → t.homes o p ≡ Some (home f m) →
    (memory : Memory) (ws : List ℕ) (b q : ℕ) → page_of (written memory f ws) (t.homes b q) ≡ cond (eqb b o && eqb q p) (present ws m) (page_of memory (t.homes b q))
page_written sizes size t so o p f m is memory ws b q = at (eqb b o && eqb q p) refl
  where
    frame_of : (c r : ℕ) (y : Home) → t.homes c r ≡ Some y → claim t c r ≡ Some y.frame
    frame_of c r y e = ap (λ z. claim_of z (reserved_frame t.table c r)) e

    at : (k : Bool) → (eqb b o && eqb q p) ≡ k → page_of (written memory f ws) (t.homes b q) ≡ cond k (present ws m) (page_of memory (t.homes b q))
    at true e =
        let w = and_parts (eqb b o) (eqb q p) e in
        ap (page_of (written memory f ws)) (ap₂ t.homes (eqb-true b o w.0) (eqb-true q p w.1) ∙ is)
        ∙ ap (λ vs. present vs m) (cond-true (eqb f f) ws (memory f) (eq-eqb f f refl))
    at false e = page_kept memory f ws (t.homes b q) (λ y h z.
        let s = so.apart.single b q o p f (frame_of b q y h ∙ ap (λ n. Some n) z) (frame_of o p (home f m) is) in
        let u : (eqb b o && eqb q p) ≡ true = and_from _ _ (eq-eqb b o s.0) (eq-eqb q p s.1) in
        let v : ◌≡◌ {A = Bool} false true = sym e ∙ u in
        Rattle.std.proofs.lemmas.Bool.false≢true v)

-- the same test on both sides: what is not taken does not matter
other_branch : {A : Type 0} (k : Bool) (x y z : A) → (k ≡ false → y ≡ z) → cond k x y ≡ cond k x z
other_branch true x y z e = refl
other_branch false x y z e = e refl

pub brings_in_page : BringsInPage
brings_in_page sizes size m o p f s t so ho hp away b w n memory ws =
    let r = bringing_in sizes size m o p s t (in_frame f) so ho hp away b in
    let is : t.homes o p ≡ Some (home f m) = ap (λ (h : ℕ → Homes). h o p) r.outcome.0 ∙ rehome_here s.homes o p (Some (home f m)) in
    alike w n size _ _ _ _ r.total (λ c q.
    page_written sizes size t r.sound o p f m is memory ws c q
    ∙ other_branch (eqb c o && eqb q p) (present ws m) (page_of memory (t.homes c q)) (page_of memory (s.homes c q))
    (λ k. ap (page_of memory) (ap (λ (h : ℕ → Homes). h c q) r.outcome.0 ∙ cond-false (eqb c o && eqb q p) (Some (home f m)) (s.homes c q) k)))

pub stores_to_page : StoresToPage
stores_to_page sizes size o p x s so here-is w n memory ws =
    let r = storing sizes size o p s so in
    let is : (stored o p s).homes o p ≡ Some (home x.frame true)
    = rehome_here s.homes o p (mark (s.homes o p)) ∙ ap mark here-is in
    alike w n size _ _ _ _ r.total (λ c q.
    page_written sizes size (stored o p s) r.sound o p x.frame true is memory ws c q
    ∙ other_branch (eqb c o && eqb q p) (present ws true) (page_of memory ((stored o p s).homes c q)) (page_of memory (s.homes c q))
    (λ k. ap (page_of memory) (cond-false (eqb c o && eqb q p) (mark (s.homes o p)) (s.homes c q) k)))

page_cond : (memory : Memory) (k : Bool) (x y : Option Home) → page_of memory (cond k x y) ≡ cond k (page_of memory x) (page_of memory y)
page_cond memory true x y = refl
page_cond memory false x y = refl

pub releases_page : ReleasesPage
releases_page sizes size o p s t so rel w n memory =
    let r = releasing sizes size o p s t so rel in
    alike w n size _ _ _ _ r.total (λ c q.
    ap (λ (h : ℕ → Homes). page_of memory (h c q)) r.homes_are ∙ page_cond memory (eqb c o && eqb q p) None (s.homes c q))

unstored_page : (memory : Memory) (x : Option Home) → page_of memory (unmark x) ≡ unstored (page_of memory x)
unstored_page memory None = refl
unstored_page memory (Some x) = refl

pub flushes_object : FlushesObject
flushes_object sizes size o s so w n memory =
    alike w n size _ _ _ _ (flushing sizes size o s so).total (λ c q. at c q (eqb c o) refl)
  where
    at : (c q : ℕ) (k : Bool) → eqb c o ≡ k →
        page_of memory (cond k (unmark (s.homes c q)) (s.homes c q)) ≡ cond k (unstored (page_of memory (s.homes o q))) (page_of memory (s.homes c q))
    at c q true e = unstored_page memory (s.homes c q) ∙ ap (λ b. unstored (page_of memory (s.homes b q))) (eqb-true c o e)
    at c q false e = refl

pub closes_object : ClosesObject
closes_object sizes size o s t so run w n memory =
    let r = closing sizes size o s t so run in
    alike w n (resize size o 0) _ _ _ _ r.total (λ c q.
    ap (λ (h : ℕ → Homes). page_of memory (h c q)) r.homes_are ∙ page_cond memory (eqb c o) None (s.homes c q))

pub opens_object : OpensObject
opens_object sizes size o k s so closed w n memory = alike w n (resize size o k) _ _ _ _ refl (λ c q. at c q (eqb c o) refl (s.homes c q) refl)
  where
    at : (c q : ℕ) (j : Bool) → eqb c o ≡ j → (x : Option Home) → s.homes c q ≡ x → page_of memory (s.homes c q) ≡ cond j absent (page_of memory (s.homes c q))
    at c q false e x h = refl
    at c q true e None h = ap (page_of memory) h
    at c q true e (Some x) h = absurd (let z : size c ≡ size o = ap size (eqb-true c o e) in omega (arith, so.below c q x h))
