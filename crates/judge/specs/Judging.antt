-- What the judge answers and leaves (document 01, "Log and verdict bytes" and "Refusals by number").
use Rattle.std.specs.Prelude.{ℕ, Bool, cond, ◌&&◌, List, leb, length, Result, Ok, Err}
use Rattle.fields.specs.Refusals.{number_of}
use Rattle.fields.specs.declared.Refusal.{Refusal}
use Rattle.log_bytes.specs.Records.{system_of}
use Rattle.log_bytes.specs.Reading.{Log, accepted, rejected, read_log}
use Rattle.verdict_file.specs.Files.{Verdict, allowed, impossible, file_of}
use Rattle.verdict_file.specs.Verdicts.{verdict_of}
use Rattle.fields.specs.Put.{put}
use Rattle.verdict_file.specs.Writing.{room}
use Rattle.scratch.specs.Clearing.{zeros}
use Rattle.judge.specs.declared.Judged.{Judged}
use Rattle.judge.specs.declared.Judged.TheVariants.{Allowed, Impossible}

-- A verdict: 1 if allowed or 0 if impossible, the number of the first impossible event or 0, the step count, and the
-- length of the file; or the number of a refusal alone.
pub data Answer : Type 0 where
  gives : (verdict event steps len : ℕ) → Answer
  refused : (number : ℕ) → Answer

abbrev pub answer_of : Result Judged Refusal → Answer
answer_of (Ok (Allowed steps len)) = gives 1 0 steps len
answer_of (Ok (Impossible event len)) = gives 0 event 0 len
answer_of (Err why) = refused (number_of why)

-- What the judge tells of a verdict.
unfoldable pub told : Verdict → Answer
told (allowed ps) = gives 1 0 (length ps) (length (file_of (allowed ps)))
told (impossible event) = gives 0 event 0 (length (file_of (impossible event)))

-- What a call leaves: its answer, and the two areas that it was lent, the output and the scratch area
-- (document 01: work area).
pub record Outcome : Type 0 where
  pub answer : Answer
  pub out : List ℕ
  pub scratch : List ℕ

abbrev pub outcome_of : Result Judged Refusal → (out scratch : List ℕ) → Outcome
outcome_of j out scratch = record { answer = answer_of j; out = out; scratch = scratch }

-- A refusal, with both areas as they were.
unfoldable pub refusal : ℕ → (out scratch : List ℕ) → Outcome
refusal number out scratch = record { answer = refused number; out = out; scratch = scratch }

-- A verdict: its file from the offset on, the output outside the file as it was, and the scratch area all zero.
unfoldable pub verdict : Verdict → (out : List ℕ) (offset : ℕ) (scratch : List ℕ) → Outcome
verdict v out offset scratch =
    record { answer = told v; out = put out offset (file_of v); scratch = zeros (length scratch) }

-- The output has room for the longest file after the offset, and the scratch area has 4,096 numbers.
unfoldable pub areas_fit : (out : List ℕ) (offset : ℕ) (scratch : List ℕ) → Bool
areas_fit out offset scratch = room out offset && leb 4096 (length scratch)

-- What the judge answers and leaves, with areas that fit, by what the log is read as: its refusal, or the verdict on
-- its events.
unfoldable pub judgement_of : Log → (out : List ℕ) (offset : ℕ) (scratch : List ℕ) → Outcome
judgement_of (rejected number) out offset scratch = refusal number out scratch
judgement_of (accepted r) out offset scratch = verdict (verdict_of (system_of r) r.events) out offset scratch

-- What the judge answers and leaves. Areas that are too short give 1, whatever the log.
unfoldable pub judgement : (s out : List ℕ) (offset : ℕ) (scratch : List ℕ) → Outcome
judgement s out offset scratch =
    cond (areas_fit out offset scratch) (judgement_of (read_log s) out offset scratch) (refusal 1 out scratch)
