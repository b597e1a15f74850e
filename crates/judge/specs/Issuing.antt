-- Issuing the verdict that was found: its file is written, and the judge tells of it.
use Rattle.std.specs.Prelude.{ℕ, ◌+◌, ◌≤◌, ◌<◌, ◌≡◌, List, length, Result}
use Rattle.fields.specs.declared.Refusal.{Refusal}
use Rattle.verdict_file.specs.Files.{Verdict, allowed, impossible}
use Rattle.verdict_file.specs.Answers as written
use Rattle.verdict_file.specs.Writing.{answer, output}
use Rattle.scratch.specs.Layout.{SORTED}
use Rattle.scratch.specs.Words.{steps_at}
use Rattle.weighing.specs.declared.Weighed.{Weighed}
use Rattle.judge.specs.Judging.{Answer, refused, answer_of, told}
use Rattle.judge.specs.declared.Judged.{Judged}

-- The verdict that was found, with the steps that stand in order from SORTED on.
abbrev pub verdict_found : Weighed → List ℕ → Verdict
verdict_found (Weighed.Allowed steps) w = allowed (steps_at SORTED steps w)
verdict_found (Weighed.Impossible number) w = impossible number

-- The steps that were found are in the area, or the number of the event is a byte.
unfoldable pub Issuable : Weighed → List ℕ → Type 0
Issuable (Weighed.Allowed steps) w = SORTED + steps ≤ length w
Issuable (Weighed.Impossible number) w = number < 256

-- What the judge tells after a writer's answer: of the verdict, or the number of the refusal.
abbrev pub tells : written.Answer → Verdict → Answer
tells (written.gives n) v = told v
tells (written.refused number) v = refused number

-- The judge tells what the writer of the verdict's file answered, and the output is as the writer leaves it.
pub record Issued (v : Verdict) (out : List ℕ) (offset : ℕ) (out' : List ℕ) (j : Result Judged Refusal) : Type 0 where
  pub answer : answer_of j ≡ tells (answer out offset v) v
  pub file : out' ≡ output out offset v
