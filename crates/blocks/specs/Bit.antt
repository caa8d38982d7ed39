use Rattle.std.specs.Prelude.{ℕ, ◌/◌, ◌%◌, ◌^◌, Bool, List, ◌==◌, count_ones, slice_index}
use Rattle.std.specs.List.{sum_by}

-- the binary digit k of n
abbrev pub digit : ℕ → ℕ → ℕ
digit n k = n / 2 ^ k % 2

-- whether the bit i of a row of words of 64 bits is set
abbrev pub bit : List ℕ → ℕ → Bool
bit ws i = digit (slice_index ws (i / 64)) (i % 64) == 1

-- how many bits of a row are set
abbrev pub bits_set : List ℕ → ℕ
bits_set = sum_by count_ones
