use Rattle.std.proofs.Common.{◌≡◌, ℕ, ◌+◌, ◌-◌, ◌<◌, ◌≤◌, List, [], ◌++◌, length, get_or, take, drop, sym, refl, ap, subst, ◌∙◌, append_assoc, arith, length-append, length-drop}
use Rattle.std.proofs.lemmas.List.{drop-drop, take_all, take_more, flat_map_more, take-append-drop}
use Rattle.std.proofs.lemmas.Slice.{take-put_mid, drop-put_mid}
use lib.Seq.{length-take-le}
use Rattle.std.specs.Borrow.{MutBor}
use borrow.Rule.Slice.PartMut.{put_mid}
use Rattle.replay.specs.Lines.{Adds, Pushes, field_by, fields_by}

drop_further : (m n : ℕ) (xs ys : List ℕ) → m ≤ n → drop m xs ≡ drop m ys → drop n xs ≡ drop n ys
drop_further m n xs ys l e =
    let s : m + (n - m) ≡ n = omega arith in
    let a = drop-drop (n - m) m xs in
    let b = drop-drop (n - m) m ys in
    cc

adds_then : {xs ys zs new more : List ℕ} {end mid stop : ℕ} → Adds xs end new ys mid → Adds ys mid more zs stop → Adds xs end (new ++ more) zs stop
adds_then {xs = xs} {ys = ys} {zs = zs} {new = new} {more = more} {end = end} {mid = mid} {stop = stop} a b = record {
  stops = omega (arith, length-append new more, a.stops, b.stops);
  text = b.text ∙ (ap (λ t. t ++ more) a.text ∙ append_assoc (take end xs) new more);
  rest = b.rest ∙ drop_further mid stop ys xs (omega (arith, b.stops)) a.rest;
}

-- two pushes are one of both texts
pub pushes_then : {a b c : MutBor (List ℕ)} {new more : List ℕ} {end mid stop : ℕ} → Pushes a end new b mid → Pushes b mid more c stop → Pushes a end (new ++ more) c stop
pushes_then {a = a} {b = b} {new = new} {more = more} {end = end} {mid = mid} p q = record {
  same_reference = q.same_reference ∙ p.same_reference;
  same_length = q.same_length ∙ p.same_length;
  adds = λ h.
      let l = length-append new more in
      let x = p.adds (omega arith) in
      adds_then x (q.adds (omega (arith, x.stops, p.same_length)));
}

-- bytes written over the part behind the line's end are pushed
pub pushes_part : (a b : MutBor (List ℕ)) (new part : List ℕ) (end k : ℕ) → b.ghost_name ≡ a.ghost_name → b.now ≡ put_mid end k a.now part →
    k ≡ length new → part ≡ new → end + length new ≤ length a.now → Pushes a end new b (end + length new)
pushes_part a b new part end k g w e p h =
    let rest = drop k (drop end a.now) in
    record {
      same_reference = g;
      same_length = rw (w, p) (omega (arith, length-append (take end a.now) (new ++ rest), length-append new rest, length-take-le end a.now (omega arith), length-drop k (drop end a.now), length-drop end a.now));
      adds = λ _. rw (w, p) record {
        stops = refl;
        text = take-put_mid end k a.now new (end + length new) refl (omega arith);
        rest = drop-put_mid end k a.now new (end + length new) (omega arith) (omega arith) (omega arith);
      };
    }

-- where the bytes that fit are pushed, all are, if all fit
pub pushes_fitting : {a b : MutBor (List ℕ)} {new : List ℕ} {end : ℕ} (count : ℕ) → count ≤ length new →
    Pushes a end (take count new) b (end + length (take count new)) → (end + length new ≤ length a.now → length new ≤ count) → Pushes a end new b (end + count)
pushes_fitting {a = a} {b = b} {new = new} {end = end} count h p all =
    let long = length-take-le count new h in
    record {
      same_reference = p.same_reference;
      same_length = p.same_length;
      adds = λ fits.
          let whole = take_all count new (all fits) in
          rw (← long) (subst (λ t. Adds a.now end t b.now (end + length (take count new))) whole (p.adds (omega (arith, long, fits))));
    }

-- bytes written from the line's end on, with all past them as before, are pushed
pub pushes_here : (a b : MutBor (List ℕ)) (new : List ℕ) (end : ℕ) → b.ghost_name ≡ a.ghost_name → take end b.now ≡ take end a.now →
    drop end b.now ≡ new ++ drop (end + length new) a.now → end + length new ≤ length a.now → Pushes a end new b (end + length new)
pushes_here a b new end g before written h =
    let rest = drop-drop (length new) end a.now in
    let whole : b.now ≡ put_mid end (length new) a.now new = rw (← take-append-drop end b.now, before, written, rest) refl in
    pushes_part a b new new end (length new) g whole refl refl h

-- the step of a loop that pushes a field for each item
pub pushes_more : {N : Type 0} (text : N → List ℕ) (ns : List N) (n : N) (i : ℕ) {a b c : MutBor (List ℕ)} {end mid stop : ℕ} → i < length ns → n ≡ get_or ns i n →
    Pushes a end (fields_by text (take i ns)) b mid → Pushes b mid (field_by text n) c stop → Pushes a end (fields_by text (take (i + 1) ns)) c stop
pushes_more text ns n i h e p q =
    let one = take_more ns i n h in
    let last = flat_map_more (field_by text) [] (take i ns) (get_or ns i n) in
    rw (one, ← last) (pushes_then p (rw (sym e) q))

-- what was pushed from a buffer's start on is the buffer's whole beginning
pub pushes_whole : {a b : MutBor (List ℕ)} {xs ys new : List ℕ} {start end stop : ℕ} → Pushes a start new b end →
    a.now ≡ xs → start ≡ 0 → ys ≡ b.now → stop ≡ end → length new ≤ length xs → Adds xs 0 new ys stop
pushes_whole {a = a} {b = b} {xs = xs} {ys = ys} {new = new} {start = start} {end = end} {stop = stop} p x s y e h =
    let k = p.adds (rw (x, s) (omega (arith, ap length x))) in
    rw (sym x) (rw y (rw e (rw s at k)))
