-- The counts of the answers fit the bits that they get.
use Prim.Native.Nat.{ℕ}
use native.Mathlib.Omega.{arith}
use mathlib.Core.Path.{◌≡◌, refl, sym}
use mathlib.Core.Bool.{Bool, true, false, cond}
use mathlib.Core.List.{List}
use Rattle.std.specs.Prelude.{Result, Ok, Err}
use Rattle.fields.specs.declared.Refusal.{Refusal}
use Rattle.log_bytes.specs.Records.{Records, system_of}
use Rattle.log_bytes.specs.Bytes.{Bytes}
use Rattle.log_bytes.specs.Reading.{Log, accepted, rejected, read_log}
use Rattle.log_bytes.proofs.Lengths.{longest}
use Rattle.recorder.specs.Recording as recording
use Rattle.recorder.specs.Recording.{Recorded, count, rejected, recorded}
use Rattle.recorder.proofs.Counts.{count_most}
use Rattle.converter.specs.Converting as converting
use Rattle.converter.specs.Converting.{conversion}
use Rattle.converter.proofs.Answered.{told_gives, conversion_most}
use Rattle.verdict_file.specs.Files.{Verdict, allowed, impossible}
use Rattle.verdict_file.proofs.Files.{length_impossible, short}
use Rattle.verdict_file.proofs.Verdicts.{Right}
use Rattle.judge.specs.Judging.{Outcome, refusal, told, verdict, areas_fit, judgement_of, judgement}
use Rattle.judge.proofs.RightVerdicts.{right_few, judged_right}
use Rattle.capi.specs.Packing.{RecordedFits, ConvertedFits, JudgedFits}

-- A new count of used bytes is within the longest log, so it fits 32 bits.
pub recorded_fits : (buf : List ℕ) (used tag : ℕ) (p : List ℕ) (a : Recorded) → a ≡ recorded buf used tag p
    → RecordedFits a
recorded_fits buf used tag p (count n) e = omega (arith, count_most buf used tag p n (sym e), longest)
recorded_fits buf used tag p (Recorded.rejected number) e = tt

-- The length of a converted log is within the longest log, so it fits 24 bits.
pub converted_fits : (s out : List ℕ) → Bytes s → (a : converting.Answer) → a ≡ converting.told (conversion s out)
    → ConvertedFits a
converted_fits s out b (converting.gives len) e =
    let (t, same, long) = told_gives (conversion s out) len (sym e) in
    omega (arith, conversion_most s out t b same, longest, long)
converted_fits s out b (converting.Answer.refused number) e = tt

-- What fits 24 bits fits 32.
pub length_fits : (a : Result ℕ Refusal) → ConvertedFits (converting.answer_of a) → RecordedFits (recording.answer_of a)
length_fits (Ok n) fits = omega arith
length_fits (Err why) fits = tt

-- The right verdict on a log has at most 256 steps and 1,544 bytes, so both fit 16 bits.
told_fits : (s : List ℕ) (r : Records) → read_log s ≡ accepted r → (v : Verdict) → Right (system_of r) r.events v
    → JudgedFits (told v)
unfolding told
told_fits s r read (allowed ps) right =
    let few = right_few s r read ps right in
    (omega arith, omega (arith, short (allowed ps) few))
told_fits s r read (impossible event) right = (omega arith, omega (arith, length_impossible event))

-- So do those of what the judge answers to a log that is read.
log_fits : (s : List ℕ) (l : Log) → read_log s ≡ l → (out : List ℕ) (offset : ℕ) (scratch : List ℕ)
    → JudgedFits (judgement_of l out offset scratch).answer
unfolding judgement_of refusal verdict
log_fits s (rejected number) read out offset scratch = tt
log_fits s (accepted r) read out offset scratch = told_fits s r read _ (judged_right s r read)

-- So do those of every answer of the judge.
pub judged_fits : (s out : List ℕ) (offset : ℕ) (scratch : List ℕ) (o : Outcome)
    → o ≡ judgement s out offset scratch → JudgedFits o.answer
unfolding judgement refusal
judged_fits s out offset scratch o same = rw same (go (areas_fit out offset scratch))
  where
    go : (b : Bool) → JudgedFits (cond b (judgement_of (read_log s) out offset scratch) (refusal 1 out scratch)).answer
    go true = log_fits s (read_log s) refl out offset scratch
    go false = tt
