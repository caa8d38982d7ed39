use Rattle.std.specs.Prelude.{◌≡◌, ℕ, ◌+◌, ◌*◌, ◌^◌, ◌<◌, ◌≤◌, Bool, List}
use Rattle.blocks.specs.Bit.{bit}
use Rattle.blocks.specs.declared.block.ObjectBlock.{ObjectBlock}

-- every page of a block has one bit, in a row of 1,024 bits for each object
abbrev pub BlockIs : List ℕ → ObjectBlock → Bool → Type 0
BlockIs words block value =
    (j : ℕ) → block.object * 1024 + block.pages.block.first ≤ j → j < block.object * 1024 + block.pages.block.first + 2 ^ block.pages.block.order → bit words j ≡ value
