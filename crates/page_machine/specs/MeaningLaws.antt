-- What placement comes to in the page machine that the places stand for: each call there is the machine's, with the memory
-- written only in the frame of the page that is brought in or stored to.
use Rattle.std.specs.Prelude.{◌≡◌, ℕ, ◌<◌, Bool, true, false, List, Some, None}
use Rattle.page_machine.specs.Machine.{present, absent, present_count, with_page, with_pages, with_object}
use Rattle.page_machine.specs.Refusals.{full}
use Rattle.page_machine.specs.Steps.{unstored}
use Rattle.page_machine.specs.Leaves.{Home}
use Rattle.page_machine.specs.Claims.{Places}
use Rattle.page_machine.specs.Claims as claims
use Rattle.page_machine.specs.Placement.{in_frame, nowhere, Bring, Release, Close, stored, flushed}
use Rattle.page_machine.specs.Invariant.{Sound}
use Rattle.page_machine.specs.PlacementLaws.{resize}
use Rattle.page_machine.specs.Meaning.{Memory, written, machine_of}

-- the machine counts the pages that are present
abbrev pub CountsPresent : Type 0
CountsPresent =
    (w n : ℕ) (size : ℕ → ℕ) (s : Places) (memory : Memory) → present_count (machine_of w n size s memory) ≡ claims.present s

-- a page is brought in exactly where the machine has room for it
abbrev pub BringsInIfRoom : Type 0
BringsInIfRoom =
    (sizes : List ℕ) (size : ℕ → ℕ) (m : Bool) (o p f : ℕ) (s t : Places) → Sound sizes size s → o < 4 → p < size o →
    s.homes o p ≡ None → Bring sizes m (size o) o p s (in_frame f) t → (w n : ℕ) (memory : Memory) → full (machine_of w n size s memory) ≡ false

abbrev pub NowhereIfFull : Type 0
NowhereIfFull =
    (sizes : List ℕ) (size : ℕ → ℕ) (m : Bool) (o p d : ℕ) (s t : Places) → Sound sizes size s → o < 4 → p < size o →
    s.homes o p ≡ None → Bring sizes m (size o) o p s (nowhere d) t → (w n : ℕ) (memory : Memory) → full (machine_of w n size s memory) ≡ true

-- a page brought in: with these words in its frame, it is that page and no other that changed
abbrev pub BringsInPage : Type 0
BringsInPage =
    (sizes : List ℕ) (size : ℕ → ℕ) (m : Bool) (o p f : ℕ) (s t : Places) → Sound sizes size s → o < 4 → p < size o →
    s.homes o p ≡ None → Bring sizes m (size o) o p s (in_frame f) t → (w n : ℕ) (memory : Memory) (ws : List ℕ) →
    machine_of w n size t (written memory f ws) ≡ with_page (machine_of w n size s memory) o p (present ws m)

-- a store to a page that is present: with these words in its frame
abbrev pub StoresToPage : Type 0
StoresToPage =
    (sizes : List ℕ) (size : ℕ → ℕ) (o p : ℕ) (x : Home) (s : Places) → Sound sizes size s → s.homes o p ≡ Some x →
    (w n : ℕ) (memory : Memory) (ws : List ℕ) →
    machine_of w n size (stored o p s) (written memory x.frame ws) ≡ with_page (machine_of w n size s memory) o p (present ws true)

abbrev pub ReleasesPage : Type 0
ReleasesPage =
    (sizes : List ℕ) (size : ℕ → ℕ) (o p : ℕ) (s t : Places) → Sound sizes size s → Release o p s t →
    (w n : ℕ) (memory : Memory) → machine_of w n size t memory ≡ with_page (machine_of w n size s memory) o p absent

abbrev pub FlushesObject : Type 0
FlushesObject =
    (sizes : List ℕ) (size : ℕ → ℕ) (o : ℕ) (s : Places) → Sound sizes size s → (w n : ℕ) (memory : Memory) →
    machine_of w n size (flushed o s) memory
    ≡ with_pages (machine_of w n size s memory) o (λ p. unstored ((machine_of w n size s memory).page o p))

abbrev pub ClosesObject : Type 0
ClosesObject =
    (sizes : List ℕ) (size : ℕ → ℕ) (o : ℕ) (s t : Places) → Sound sizes size s → Close o (size o) s t →
    (w n : ℕ) (memory : Memory) → machine_of w n (resize size o 0) t memory ≡ with_object (machine_of w n size s memory) o 0

abbrev pub OpensObject : Type 0
OpensObject =
    (sizes : List ℕ) (size : ℕ → ℕ) (o k : ℕ) (s : Places) → Sound sizes size s → size o ≡ 0 →
    (w n : ℕ) (memory : Memory) → machine_of w n (resize size o k) s memory ≡ with_object (machine_of w n size s memory) o k
