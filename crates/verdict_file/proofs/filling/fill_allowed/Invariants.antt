-- `fill_allowed` puts the header, a field for each step and the end, each behind the one before.
use Prim.Native.Nat.{◌+◌, ◌*◌}
use mathlib.Core.Path.{◌≡◌}
use lib.ListN.{length}
use Rattle.fields.specs.Put.{put}
use Rattle.verdict_file.proofs.Words.{fields}
use Rattle.verdict_file.proofs.filling.fill_allowed.Given as goal

abbrev pub invariant-loop-word : goal.invariant-loop-word
invariant-loop-word l =
    (l.at ≡ 5 + 6 * l.word-index)
    × (length l.part ≡ length l.initial.part) × (l.part ≡ put l.initial.part 5 (fields l.steps l.word-index))
