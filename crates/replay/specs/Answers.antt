-- What replay's answers mean.
use Rattle.std.specs.Prelude.{Result, Ok, Err}
use Rattle.fields.specs.Refusals.{number_of}
use Rattle.fields.specs.declared.Refusal as refusal
use Rattle.replay.specs.Replaying.{Answer}
use Rattle.replay.specs.declared.Replayed as replayed
use Rattle.replay.specs.declared.Replayed.TheVariants.{Yes, No}

-- Yes, or no and the events passed,
abbrev pub said_of : replayed.Replayed → Answer
said_of Yes = Answer.yes
said_of (No passed) = Answer.no passed

-- or the number of a refusal.
abbrev pub answer_of : Result replayed.Replayed refusal.Refusal → Answer
answer_of (Ok r) = said_of r
answer_of (Err x) = Answer.refused (number_of x)
