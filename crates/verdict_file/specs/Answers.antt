-- What the answers of the writers, and of a reader of schedules, mean.
use Rattle.std.specs.Prelude.{ℕ, Result, Ok, Err}
use Rattle.fields.specs.Refusals.{number_of}
use Rattle.fields.specs.declared.Refusal.{Refusal}

-- A number, the length written or the count of steps read, or the number of a refusal.
pub data Answer : Type 0 where
  gives : ℕ → Answer
  refused : ℕ → Answer

abbrev pub answer_of : Result ℕ Refusal → Answer
answer_of (Ok n) = gives n
answer_of (Err why) = refused (number_of why)
