-- `put` puts the bytes one after the other.
use mathlib.Core.Path.{◌≡◌}
use lib.ListN.{take}
use Rattle.fields.specs.Put.{put}
use Rattle.verdict_file.proofs.filling.put.Given as goal

abbrev pub invariant-loop-i : goal.invariant-loop-i
invariant-loop-i g l = l.part ≡ put l.initial.part l.at (take l.i l.byte-items)
