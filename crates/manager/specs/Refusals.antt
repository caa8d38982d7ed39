use Rattle.std.specs.Prelude.{◌≡◌, ℕ}
use Rattle.blocks.specs.Blocks.{bad_block_number}
use Rattle.blocks.specs.declared.number.ObjectPage.{ObjectPage}
use Rattle.frames.specs.Refusals.{give_number}
use Rattle.mapping.specs.Leaves.{put_error_number, no_leaf_number}
use Rattle.manager.specs.declared.refusal.Refusal.{Refusal}
use Rattle.manager.specs.declared.refusal.Refusal.TheVariants.{BadWords, BadMemory, BadObject, BadSize, AlreadyOpen, NotOpen, PagePastSize, WordPastPage, PageAbsent, ShortList, NoFrame, Block, Give, Put, Clear}

-- the number of each refusal
abbrev pub number_of : Refusal → ℕ
number_of BadWords = 1
number_of BadMemory = 2
number_of BadObject = 3
number_of BadSize = 4
number_of AlreadyOpen = 5
number_of NotOpen = 6
number_of PagePastSize = 7
number_of WordPastPage = 8
number_of PageAbsent = 9
number_of ShortList = 10
number_of (NoFrame page depth) = 11
number_of Block = bad_block_number
number_of (Give e) = give_number e
number_of (Put e) = put_error_number e
number_of Clear = no_leaf_number

-- what is told of no frame has the page that asked for one
abbrev pub NoFrameFor : ObjectPage → Refusal → Type 0
NoFrameFor page (NoFrame at depth) = at ≡ page
NoFrameFor page refusal = Unit {0}
