use Rattle.blocks.specs.Bit.{bit}
use Rattle.frames.specs.declared.boot_list.BootList.{BootList}
use Rattle.frames.specs.declared.buddy.Buddy.{Buddy}
use Rattle.frames.specs.Listed.{listed}
use Rattle.frames.specs.Source.{Source, plain}

-- what a boot list stands for
abbrev pub listed_source : BootList → Source
listed_source s = plain s.frames.number (listed s.places.items s.filled) s.filled

-- what a buddy stands for
abbrev pub buddy_source : Buddy → Source
buddy_source s = plain s.frames.number (bit s.free) s.left
