use Rattle.std.proofs.Common.{◌≡◌, ◌*◌, ◌%◌, ◌^◌, ◌∙◌, Ok, Err, Result, true, refl, arith, MatchResult}
use Rattle.std.specs.Result.{is_ok}
use native.Mathlib.Nat.{mul-mod_left}
use Rattle.blocks.specs.Blocks.{IsBlock}
use Rattle.blocks.proofs.Spans.{room, small}
use Rattle.frames.proofs.node.FrameBlockFromNode.from.Goals as goal

made : {A E X : Type 0} (P : A → Type 0) (r : Result A E) → MatchResult r P (λ _. (X → ⊥)) → X → is_ok r ≡ true
made P (Ok a) h x = refl
made P (Err e) h x = absurd (h x)

pub unwrap-requires : goal.unwrap-requires
unwrap-requires c =
    let n = c.args.node in
    let s = small n.order n.index n.small n.room in
    let b : IsBlock ((n.index * 2 ^ n.order) % 65536) n.order =
    record { small = n.small; aligned = rw s (mul-mod_left n.index (2 ^ n.order)); within = omega (arith, s, room n.order n.index n.small n.room) } in
    made _ c.new.result c.new.ensures b

pub returns : goal.returns
returns c =
    let n = c.args.node in
    let h = rw c.unwrap.ensures at c.new.ensures in
    (h.0 ∙ small n.order n.index n.small n.room, h.1)
