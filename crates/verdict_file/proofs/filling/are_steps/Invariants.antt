-- `are_steps` says whether the words are steps of a file: whether those from the next one on follow is what is left to
-- ask.
use mathlib.Core.Path.{◌≡◌}
use lib.ListN.{drop}
use Rattle.verdict_file.proofs.Words.{follow}
use Rattle.verdict_file.proofs.filling.are_steps.Given as goal

abbrev pub invariant-loop-word : goal.invariant-loop-word
invariant-loop-word l = follow 0 l.steps ≡ follow l.least (drop l.word-index l.steps)
